use Rattle.stream_reader.proofs.TurnLemmas.{notes_none, notes_more}
use Rattle.stream_reader.proofs.whole_stream.take_notes.Goals as goal

pub loop-note-init : goal.loop-note-init
loop-note-init c = notes_none _ _

pub loop-note-preserved : goal.loop-note-preserved
loop-note-preserved c =
    let step = rw (c.in-Some.is) at c.in_ok-note.ensures.some in
    let more = notes_more c.args.reader.now c.loop-note.reader c.next.new.self c.args.notes.now.items c.loop-note.notes.items c.in-Some.note c.loop-note.invariant step c.next.ensures.ended in
    rw (c.in_ok-push.ensures.items) more
