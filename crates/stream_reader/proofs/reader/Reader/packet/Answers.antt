use Rattle.packet_codec.specs.Grammar.{AreBytes}
use Rattle.packet_codec.specs.Sight.{IsSightOf}
use Rattle.stream_reader.specs.First.{IsCandidate, IsForeignAtFront}
use Rattle.stream_reader.proofs.RunLemmas.{foreign_by_sight, candidate_some}
use Rattle.stream_reader.proofs.reader.Reader.packet.Goals as goal

pub returns-in_default-clause-none : goal.returns-in_default-clause-none
returns-in_default-clause-none c =
    let are : AreBytes c.self.inside.buffer = rw (c.held.ensures) at c.are_bytes.ensures in
    let seen : IsSightOf c.self.inside.buffer c.see_front_by.result = rw (c.held-2.ensures) at c.see_front_by.ensures in
    let candidate : IsCandidate c.self.inside.buffer c.args.header c.args.sum = rw (← c.self.view_is) at c.requires in
    let foreign : IsForeignAtFront c.self.inside.ended c.self.inside.buffer = record {
      some = candidate_some _ _ candidate.stands candidate.in_range;
      foreign = foreign_by_sight c.self.inside.ended _ c.args.header c.see_front_by.result are candidate.stands candidate.in_range seen c.in_default.not-Packet;
    } in
    rw (← c.self.view_is) foreign
