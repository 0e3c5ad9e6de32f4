use Rattle.std.proofs.Common.{◌≡◌, ℕ, List}
use Rattle.std.specs.Prelude.{Option}
use Rattle.worker_lane.specs.Lanes.{lane_number}
use Rattle.worker_lane.specs.Rest.{GivesIfTold}
use Rattle.worker_mux.specs.Works.{ArePacketsUnder, bytes_left}
use Rattle.worker_mux.proofs.work.join_packets.Given as goal

-- what is left is less by what was joined
abbrev pub invariant-loop : goal.invariant-loop
invariant-loop g l = record {
  number : lane_number l.lane ≡ lane_number l.initial.lane;
  own : ArePacketsUnder (lane_number l.initial.lane) l.packets.items;
  gives : (start : Option (List ℕ)) → GivesIfTold start l.initial.packets.items (bytes_left g.C.Child.seen l.initial.lane) → GivesIfTold start l.packets.items (bytes_left g.C.Child.seen l.lane);
}
