use Rattle.packet_codec.proofs.WritingLemmas.{kept_behind}
use Rattle.build_notes.proofs.notes.put_notes.Goals as goal

pub returns-in_err-put_note-clause-kept : goal.returns-in_err-put_note-clause-kept
returns-in_err-put_note-clause-kept c = kept_behind c.args.text.now.items c.loop-row.text.items c.put_note.new.text.items _ c.loop-row.invariant c.in_err-put_note.ensures.kept
