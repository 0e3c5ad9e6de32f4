use Rattle.build_notes.proofs.LineLemmas.{note_is_line}
use Rattle.build_notes.proofs.laws.notes_are_lines.Goals as goal

pub returns : goal.returns
returns c = record { lines = note_is_line }
