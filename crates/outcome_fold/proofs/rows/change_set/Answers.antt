use Rattle.std.proofs.lemmas.Result.{on_ok_weaker}
use Rattle.outcome_fold.proofs.AnswerLemmas.{changed}
use Rattle.outcome_fold.proofs.rows.change_set.Goals as goal

pub returns : goal.returns
returns c =
    on_ok_weaker c.put_all.result
    (λ new-is. changed c.args.rows.now _ _ _ _ _ c.in_ok-failing.ensures c.in_ok-into_ids.ensures c.remove_passed.ensures new-is)
    c.put_all.ensures
