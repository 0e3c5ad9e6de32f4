use Rattle.std.proofs.Common.{◌-◌, length, take}
use Rattle.std.proofs.lemmas.List.{take_rest}
use Rattle.packet_codec.proofs.packet.packet_parts.Goals as goal

pub returns-clause-none : goal.returns-clause-none
returns-clause-none c = rw (take_rest (take (length c.args.bytes.now - 4) c.args.bytes.now) c.args.header.start) at c.parts_of.ensures.none
