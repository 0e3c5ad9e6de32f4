use Rattle.std.proofs.Common.{◌∙◌, subst, rules, All}
use Rattle.run_ledger.specs.Cuts.{IsTimedAt}
use Rattle.run_ledger.proofs.TimedLemmas.{all_are_timed, entries_by_id}
use Rattle.run_ledger.proofs.times_cache.write_times_cache.Goals as goal

pub returns-clause-form : goal.returns-clause-form
returns-clause-form c =
    let each : All (IsTimedAt c.args.times.now) c.list.result.now = c.in_ok-write_times.ensures.timed in
    record {
      is = search (rules, entries_by_id);
      number = c.ranges.covers.fits;
      each = all_are_timed c.args.times.now (subst (All (IsTimedAt c.args.times.now)) (c.list.ensures ∙ c.in_ok-ids.ensures) each);
    }
