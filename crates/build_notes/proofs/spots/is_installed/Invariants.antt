use Rattle.std.proofs.Common.{◌≡◌, length}
use Rattle.build_notes.specs.Notes.{is_installed}
use Rattle.build_notes.proofs.spots.is_installed.Given as goal

abbrev pub invariant-loop-rest : goal.invariant-loop-rest
invariant-loop-rest l = is_installed l.rest ≡ is_installed l.path

abbrev pub decreases-loop-rest : goal.decreases-loop-rest
decreases-loop-rest l = length l.rest
