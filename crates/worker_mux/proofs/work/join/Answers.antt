use Rattle.std.proofs.Common.{ℕ, List, ◌∙◌, ap, sym, subst}
use Rattle.worker_lane.specs.Endings.{IsLotOf}
use Rattle.worker_lane.specs.Lanes.{lane_number}
use Rattle.worker_lane.specs.Rest.{GivesIfTold}
use Rattle.worker_mux.specs.Callers.{packet_of}
use Rattle.worker_mux.specs.Works.{ArePacketsUnder, bytes_left}
use Rattle.worker_mux.proofs.Going.{own_first}
use Rattle.worker_mux.proofs.work.join.Goals as goal

pub join_packets-requires : goal.join_packets-requires
join_packets-requires g c = record {
  own = subst (ArePacketsUnder (lane_number c.args.lane.now)) (sym c.into_vec-packets.ensures) (own_first _ _ (subst (IsLotOf (lane_number c.args.lane.now)) c.in-Packet.is c.requires.under));
}

pub returns-in-Packet-clause-gives : goal.returns-in-Packet-clause-gives
returns-in-Packet-clause-gives g c = λ start so.
    subst (λ (l : List ℕ). GivesIfTold start l (bytes_left g.C.Child.seen c.join_packets.new.lane)) (sym c.from_vec.ensures)
    (c.join_packets.ensures.gives start (subst (λ (l : List ℕ). GivesIfTold start l (bytes_left g.C.Child.seen c.args.lane.now)) (ap packet_of c.in-Packet.is ∙ sym c.into_vec-packets.ensures) so))
