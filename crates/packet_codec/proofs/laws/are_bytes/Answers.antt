use Rattle.packet_codec.proofs.WritingLemmas.{all_bytes}
use Rattle.packet_codec.proofs.laws.are_bytes.Goals as goal

pub returns : goal.returns
returns c = all_bytes _ c.type_inv.bytes
