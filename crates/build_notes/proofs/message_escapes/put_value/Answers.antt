use Rattle.packet_codec.proofs.WritingLemmas.{kept_behind}
use Rattle.build_notes.proofs.message_escapes.put_value.Goals as goal

pub returns-in_err-put_byte-clause-kept : goal.returns-in_err-put_byte-clause-kept
returns-in_err-put_byte-clause-kept c = kept_behind c.args.text.now.items c.loop-byte.text.items c.put_byte.new.text.items _ c.loop-byte.invariant c.in_err-put_byte.ensures.kept
