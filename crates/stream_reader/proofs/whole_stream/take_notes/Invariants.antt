use Rattle.std.proofs.Common.{length}
use Rattle.stream_reader.specs.Stream.{GivesNotes}
use Rattle.stream_reader.proofs.whole_stream.take_notes.Given as goal

-- the notes appended so far were given in turn
abbrev pub invariant-loop-note : goal.invariant-loop-note
invariant-loop-note l = GivesNotes l.fn.reader l.fn.notes.items l.reader l.notes.items

abbrev pub decreases-loop-note : goal.decreases-loop-note
decreases-loop-note l = length l.reader.bytes
