use Rattle.std.proofs.Common.{take}
use Rattle.run_shelf.specs.Marks.{AreMarksOf}
use Rattle.run_shelf.proofs.names.marks_of.Given as goal

abbrev pub invariant-loop-name : goal.invariant-loop-name
invariant-loop-name l = AreMarksOf (take l.name-index l.names) l.old l.marks.items
