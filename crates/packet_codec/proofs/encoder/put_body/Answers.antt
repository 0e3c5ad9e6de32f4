use Rattle.packet_codec.proofs.WritingLemmas.{kept_twice}
use Rattle.packet_codec.proofs.encoder.put_body.Goals as goal

pub returns-clause-kept : goal.returns-clause-kept
returns-clause-kept c = kept_twice _ _ _ c.in_ok-put_head.ensures.kept c.put_fields.ensures.kept
