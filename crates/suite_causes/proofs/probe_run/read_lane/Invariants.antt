use Rattle.std.proofs.Common.{◌≡◌, Some, [], ◌∷◌}
use Rattle.edge_io.specs.Children.{Output}
use Rattle.worker_lane.specs.Lanes.{rest, lane_number}
use Rattle.worker_lane.specs.Rest.{lots_asked}
use Rattle.suite_causes.proofs.ProbeLemmas.{IsSummedUp}
use Rattle.suite_causes.proofs.probe_run.read_lane.Given as goal

-- the packets so far were heard
abbrev pub invariant-loop : goal.invariant-loop
invariant-loop g l = record {
  number : lane_number l.lane ≡ 0;
  heard : (output : Output) → rest g.C.Child.seen l.initial.lane ≡ Some (lots_asked 0 (l.test ∷ []) output) → IsSummedUp (l.test ∷ []) output (rest g.C.Child.seen l.lane) l.summing;
}
