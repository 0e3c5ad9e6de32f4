use Rattle.packet_codec.specs.Halves.{first_half}
use Rattle.packet_codec.proofs.HalfLemmas.{first_are, first_fits_so}
use Rattle.packet_codec.proofs.packet.Packet.put_first_half.Goals as goal

pub put_parts_under-requires-clause-fits : goal.put_parts_under-requires-clause-fits
put_parts_under-requires-clause-fits c =
    let (e, spelled) = c.self.invariant.packet in
    let long = c.requires.halves e (rw c.self.view_is at spelled) in
    (first_half e, first_are _ _ _ c.self.invariant e spelled _ _ c.first_header.ensures.first c.first_header.ensures.second c.front_of.ensures, first_fits_so _ _ _ c.self.invariant e spelled c.args.lane c.requires.lane long)

pub returns-clause-ok : goal.returns-clause-ok
returns-clause-ok c = λ e s.
    c.put_parts_under.ensures.ok (first_half e) (first_are _ _ _ c.self.invariant e (rw (← c.self.view_is) at s) _ _ c.first_header.ensures.first c.first_header.ensures.second c.front_of.ensures)
