use Rattle.outcome_fold.specs.Longest.{kept_time}
use Rattle.outcome_fold.specs.Summed.{shown_time}
use Rattle.outcome_fold.proofs.LastsLemmas.{lent_more, texts_more}
use Rattle.outcome_fold.proofs.longest_times.lent_times.Goals as goal

pub loop-time-preserved : goal.loop-time-preserved
loop-time-preserved c = record {
  shown = lent_more shown_time kept_time _ _ c.timed.result c.args.times.now c.loop-time.time-index c.time-item.result c.loop-time-test.true c.time-item.is c.in_ok-push.ensures.items c.timed.ensures.shown c.loop-time.invariant.shown;
  texts = texts_more shown_time _ _ c.timed.result c.in_ok-push.ensures.items c.timed.ensures.text c.loop-time.invariant.texts;
}
