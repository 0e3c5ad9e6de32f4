use Rattle.std.proofs.Common.{◌≡◌, length, false, rules, arith, length-append, ap}
use Rattle.stream_reader.proofs.FrontLemmas.{are_from_fits}
use Rattle.stream_reader.proofs.RunLemmas.{foreign_fed, packet_fed}
use Rattle.stream_reader.proofs.reader.Reader.feed.Goals as goal

pub invariant_of-self : goal.invariant_of-self
invariant_of-self c =
    let going_on : c.self.inside.ended ≡ false = search rules in (
      omega (arith, c.self.invariant.0, ap length c.append.ensures, length-append c.self.inside.buffer c.args.piece.now),
      c.self.invariant.1,
      foreign_fed c.self.inside.ended c.self.inside.buffer c.args.piece.now c.append.new.self 0 c.self.inside.foreign going_on (are_from_fits _ c.type_inv.piece) (omega (arith, c.self.invariant.0)) c.append.ensures c.self.invariant.2,
      packet_fed c.self.inside.packet c.self.inside.buffer c.args.piece.now c.append.new.self 0 (omega arith) c.append.ensures c.self.invariant.3,
    )
