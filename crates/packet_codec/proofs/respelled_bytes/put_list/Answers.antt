use Rattle.std.proofs.Common.{arith}
use Rattle.packet_codec.proofs.WritingLemmas.{tags_count}
use Rattle.packet_codec.proofs.respelled_bytes.put_list.Goals as goal

pub write_number-requires : goal.write_number-requires
write_number-requires c = omega (arith, c.requires.1.1.size, tags_count c.requires.0, c.requires.2)
