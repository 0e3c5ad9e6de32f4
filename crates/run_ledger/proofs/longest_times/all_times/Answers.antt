use Rattle.std.proofs.Common.{◌∙◌, sym, ap}
use Rattle.outcome_fold.specs.Summed.{shown_time}
use Rattle.run_ledger.proofs.LongestLemmas.{row_timed, row_not_timed, pushed_is, pushed_timed}
use Rattle.run_ledger.proofs.longest_times.all_times.Goals.{in-Some+in_ok-push, in_default}
use Rattle.run_ledger.proofs.longest_times.all_times.Goals as goal

pub loop-row-preserved : goal.loop-row-preserved
loop-row-preserved c = elim c.match-run_time.branch [
  | in-Some+in_ok-push w ↦ let items = ap (λ v. v.items) w.times-is ∙ w.in_ok-push.ensures.items in record {
    times = pushed_is shown_time _ _ _ items _ _ (c.row-item.result.id, w.in-Some.nanos) w.timed_by.ensures.shown c.loop-row.invariant.times
        (row_timed c.args.rows.now c.loop-row.row-index c.row-item.result c.loop-row-test.true c.row-item.is w.in-Some.nanos (sym w.in-Some.is ∙ c.run_time.ensures));
    timed = pushed_timed shown_time _ _ _ items c.loop-row.invariant.timed w.timed_by.ensures.timed.text w.timed_by.ensures.timed.time;
  }
  | in_default w ↦ record {
    times = rw w.times-is (c.loop-row.invariant.times ∙ row_not_timed c.args.rows.now c.loop-row.row-index c.row-item.result c.loop-row-test.true c.row-item.is (sym w.in_default.is ∙ c.run_time.ensures));
    timed = rw w.times-is c.loop-row.invariant.timed;
  }
]
