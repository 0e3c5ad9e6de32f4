use Rattle.std.proofs.Common.{◌≡◌, ◌++◌, take}
use Rattle.std.specs.List.{filter, flat_map}
use Rattle.outcome_fold.specs.Answers.{row_fails}
use Rattle.build_notes.specs.Notes.{note_of}
use Rattle.build_notes.proofs.notes.put_notes.Given as goal

abbrev pub invariant-loop-row : goal.invariant-loop-row
invariant-loop-row l = l.text.items ≡ l.fn.text.items ++ flat_map note_of (filter row_fails (take l.row-index l.rows))
