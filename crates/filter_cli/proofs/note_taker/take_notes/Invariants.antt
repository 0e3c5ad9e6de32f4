use Rattle.std.proofs.Common.{◌≡◌, length, List}
use Rattle.stream_reader.specs.declared.note.Note.{Note}
use Rattle.filter_cli.specs.Noted.{TakesNotes}
use Rattle.filter_cli.proofs.note_taker.take_notes.Given as goal

-- the notes given so far were taken in turn
abbrev pub invariant-loop-more : goal.invariant-loop-more
invariant-loop-more g l = record {
  taken : (notes : List Note) → g.F.NoteFilter.has l.fn.filter notes → TakesNotes (g.F.NoteFilter.has l.filter) (g.F.NoteFilter.plan l.fn.filter) notes l.fn.reader l.reader l.fn.character l.character l.fn.text.items l.text.items;
  ready : g.F.NoteFilter.ready l.filter;
  ended : l.reader.ended ≡ l.fn.reader.ended;
  plan : g.F.NoteFilter.plan l.filter ≡ g.F.NoteFilter.plan l.fn.filter;
}

abbrev pub decreases-loop-more : goal.decreases-loop-more
decreases-loop-more g l = length l.reader.bytes
