use Rattle.std.proofs.Common.{◌≡◌, map, take, All}
use Rattle.sub_number.specs.Texts.{IsShortText}
use Rattle.outcome_fold.specs.Longest.{kept_time}
use Rattle.outcome_fold.specs.Summed.{shown_time}
use Rattle.outcome_fold.proofs.longest_times.lent_times.Given as goal

abbrev pub invariant-loop-time : goal.invariant-loop-time
invariant-loop-time l = record {
  shown : map shown_time l.lent.items ≡ map kept_time (take l.time-index l.times);
  texts : All (λ timed. IsShortText timed.id.now) l.lent.items;
}
