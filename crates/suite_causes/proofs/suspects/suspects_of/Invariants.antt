use Rattle.std.proofs.Common.{◌≡◌, take}
use Rattle.suite_causes.specs.Suspects.{suspects_of}
use Rattle.suite_causes.proofs.suspects.suspects_of.Given as goal

-- the tests of the rows so far
abbrev pub invariant-loop-row : goal.invariant-loop-row
invariant-loop-row l = l.found.items ≡ suspects_of (take l.row-index l.failing)
