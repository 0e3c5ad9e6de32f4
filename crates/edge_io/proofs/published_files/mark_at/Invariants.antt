use Rattle.std.proofs.Common.{◌≡◌, take}
use Rattle.edge_io.specs.Kept.{mark_in_force}
use Rattle.edge_io.proofs.published_files.mark_at.Given as goal

abbrev pub invariant-loop-mark : goal.invariant-loop-mark
invariant-loop-mark l = l.found ≡ mark_in_force (take l.mark-index l.past) l.moment
