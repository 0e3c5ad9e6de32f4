use Rattle.std.proofs.Common.{Ok}
use Rattle.old_copies.specs.Copying.{places, IsRunBelow, CopyStep}
use Rattle.old_copies.proofs.folder_copy.copy_runs.Given as goal

-- the files of the runs so far are copied
abbrev pub invariant-loop-number : goal.invariant-loop-number
invariant-loop-number g l = CopyStep {T = Unit {0}} (IsRunBelow l.number) l.from (places (g.H.Shelf.seen l.initial.shelf) (g.F.Site.seen l.initial.site)) (places (g.H.Shelf.seen l.shelf) (g.F.Site.seen l.site)) (Ok tt)
