use Rattle.std.proofs.Common.{◌≡◌, ◌++◌, ◌+◌, ◌≤◌, map, length}
use Rattle.std.specs.List.{AllByRecursion}
use Rattle.std.specs.Vec.Iter.{into_iter_items, into_iter_len}
use Rattle.std.specs.VecDeque.{deque_capacity}
use Rattle.worker_lane.specs.Lanes.{lane_number}
use Rattle.worker_mux.specs.Passes.{number_of, IsFresh}
use Rattle.worker_mux.specs.Runs.{share, first_share}
use Rattle.worker_mux.specs.Works.{IsReady}
use Rattle.worker_mux.proofs.run.begin.Given as goal

abbrev pub invariant-loop-lane : goal.invariant-loop-lane
invariant-loop-lane g l = record {
  ready : AllByRecursion (IsReady l.belt) l.works.items;
  shares : map (share g.C.Child.seen) l.works.items ++ map (first_share g.C.Child.seen) (into_iter_items l.lanes) ≡ map (first_share g.C.Child.seen) l.fn.lanes.items;
  numbers : map lane_number (into_iter_items l.lanes) ≡ map number_of (into_iter_items l.passes);
  room : length l.works.items + into_iter_len l.lanes ≤ deque_capacity l.works;
  fresh : AllByRecursion (IsFresh l.belt) (into_iter_items l.passes);
}

abbrev pub decreases-loop-lane : goal.decreases-loop-lane
decreases-loop-lane g l = into_iter_len l.lanes
