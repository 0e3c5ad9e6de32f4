use Rattle.packet_codec.specs.Grammar.{AreBytes}
use Rattle.stream_reader.proofs.GivingLemmas.{gives_made}
use Rattle.stream_reader.proofs.reader.Reader.pass.Goals as goal

pub returns-in-Packet-clause-given : goal.returns-in-Packet-clause-given
returns-in-Packet-clause-given c =
    let are : AreBytes c.args.self.now.bytes = rw (← c.self.view_is) (rw (c.held.ensures) at c.are_bytes.ensures) in
    λ note made. gives_made _ _ c.args.first note are c.requires (rw (c.in-Packet.is) c.let_pass.ensures) made

pub returns-in-Foreign-clause-given : goal.returns-in-Foreign-clause-given
returns-in-Foreign-clause-given c =
    let are : AreBytes c.args.self.now.bytes = rw (← c.self.view_is) (rw (c.held.ensures) at c.are_bytes.ensures) in
    λ note made. gives_made _ _ c.args.first note are c.requires (rw (c.in-Foreign.is) c.let_pass-in-Foreign.ensures) made
