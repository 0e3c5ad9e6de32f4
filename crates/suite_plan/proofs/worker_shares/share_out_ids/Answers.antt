use Rattle.std.proofs.Common.{◌≡◌, ◌≤◌, length}
use Rattle.std.specs.List.{filter}
use Rattle.std.proofs.lemmas.Result.{IfOk-weaker}
use Rattle.suite_plan.specs.Sharing.{has_ids}
use Rattle.suite_plan.proofs.ShareLemmas.{few_kept}
use Rattle.suite_plan.proofs.worker_shares.share_out_ids.Goals as goal

pub returns-clause-few : goal.returns-clause-few
returns-clause-few c =
    let shares = c.in_ok-shares.shares.items in
    IfOk-weaker c.without_empty.result (λ kept. kept.items ≡ filter has_ids shares) (λ kept. length kept.items ≤ c.args.workers)
    (λ kept is. few_kept kept.items shares c.args.workers is c.in_ok-shares.ensures.count) c.without_empty.ensures
