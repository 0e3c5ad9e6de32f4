use Rattle.std.proofs.Common.{◌∙◌, sym, ap, max}
use Rattle.std.specs.FinMap as map
use Rattle.std.specs.Option.{unwrap_or}
use Rattle.outcome_fold.proofs.AnswerLemmas.{timed_takes, timed_skips}
use Rattle.outcome_fold.proofs.rows.longest_times.Goals.{in-Some+in_ok-put_longest, in_default}
use Rattle.outcome_fold.proofs.rows.longest_times.Goals as goal

pub loop-row-preserved : goal.loop-row-preserved
loop-row-preserved c = elim c.match-run_time.branch [
  | in-Some+in_ok-put_longest w ↦ w.times-is ∙ w.in_ok-put_longest.ensures
      ∙ ap (λ times. map.insert times c.row-item.result.id (max w.in-Some.nanos (unwrap_or (map.get times c.row-item.result.id) 0))) c.loop-row.invariant
      ∙ sym (timed_takes _ _ c.row-item.result w.in-Some.nanos c.loop-row-test.true c.row-item.is (sym w.in-Some.is ∙ c.run_time.ensures))
  | in_default w ↦ w.times-is ∙ c.loop-row.invariant ∙ sym (timed_skips _ _ c.row-item.result c.loop-row-test.true c.row-item.is (sym w.in_default.is ∙ c.run_time.ensures))
]
