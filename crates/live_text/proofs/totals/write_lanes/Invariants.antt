use Rattle.std.proofs.Common.{◌≡◌, ◌++◌, drop}
use Rattle.live_text.specs.Totals.{lines_from}
use Rattle.live_text.proofs.totals.write_lanes.Given as goal

abbrev pub invariant-loop-sum : goal.invariant-loop-sum
invariant-loop-sum l = record {
  lane : l.lane ≡ l.sum-index;
  text : l.text.items ++ lines_from l.lane (drop l.sum-index l.lanes) ≡ l.initial.text.items ++ lines_from 0 l.lanes;
}
