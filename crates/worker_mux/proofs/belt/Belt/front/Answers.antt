use Rattle.std.proofs.Common.{subst, sym}
use Rattle.worker_mux.specs.Rule.{FirstPartsTaken, AllTaken, OfLanes}
use Rattle.worker_mux.proofs.Told.{takes_as, learns_as, first_parts, front_whole, all_taken, was_empty}
use Rattle.worker_mux.proofs.belt.Belt.front.Goals as goal

pub pop_as-requires-clause-rule : goal.pop_as-requires-clause-rule
pop_as-requires-clause-rule g c = (takes_as _ _ c.requires.taker.reads, learns_as _ _ c.requires.taker.reads)

pub returns-in_err-parcel-clause-first_parts : goal.returns-in_err-parcel-clause-first_parts
returns-in_err-parcel-clause-first_parts g c = subst FirstPartsTaken (sym c.in_err-parcel.ensures.rule.0) (first_parts _ _ c.in_err-parcel.ensures.rule.1.2)

pub returns-in_err-parcel-clause-all : goal.returns-in_err-parcel-clause-all
returns-in_err-parcel-clause-all g c = rw c.from_residual.ensures (subst AllTaken (sym c.in_err-parcel.ensures.rule.0) (all_taken _ (was_empty _ c.in_err-parcel.ensures.rule.1)))

pub returns-in_err-parcel-clause-of_lanes : goal.returns-in_err-parcel-clause-of_lanes
returns-in_err-parcel-clause-of_lanes g c = subst OfLanes (sym c.in_err-parcel.ensures.rule.0) c.in_err-parcel.ensures.rule.1.2.of_lanes

pub returns-clause-first_parts : goal.returns-clause-first_parts
returns-clause-first_parts g c = first_parts _ _ c.in_ok-parcel.ensures.rule.1.2

pub returns-clause-packets : goal.returns-clause-packets
returns-clause-packets g c = front_whole _ _ _ c.in_ok-parcel.ensures.rule.1.1
