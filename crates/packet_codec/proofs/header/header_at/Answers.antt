use Rattle.std.proofs.lemmas.List.{take_rest}
use Rattle.packet_codec.proofs.HeaderLemmas.{no_size, no_room}
use Rattle.packet_codec.proofs.header.header_at.Goals as goal

pub returns-in_err-size-clause-none : goal.returns-in_err-size-clause-none
returns-in_err-size-clause-none c = rw c.from_residual.ensures (no_size _ _ (take_rest c.args.bytes.now 3) c.in_err-size.ensures.none)

pub returns-then-size-start-clause-none : goal.returns-then-size-start-clause-none
returns-then-size-start-clause-none c = no_room _ _ _ _ (take_rest c.args.bytes.now 3) c.type_inv.bytes c.in_ok-size.ensures.number c.if-size-start.true
