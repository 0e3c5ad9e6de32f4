use Rattle.packet_codec.proofs.WritingLemmas.{all_bytes}
use Rattle.packet_codec.proofs.sizes.bytes_size.Goals as goal

pub returns-clause-bytes : goal.returns-clause-bytes
returns-clause-bytes c = all_bytes c.args.bytes.now c.type_inv.bytes
