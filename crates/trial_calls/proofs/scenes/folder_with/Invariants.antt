use Rattle.std.proofs.Common.{◌≡◌}
use Rattle.std.specs.Prelude.{None}
use Rattle.edge_io.specs.MemState.{folder_of}
use Rattle.trial_calls.proofs.scenes.folder_with.Given as goal

-- nothing is pending between two files
abbrev pub invariant-loop-name : goal.invariant-loop-name
invariant-loop-name l = (folder_of l.shelf).disk.pending ≡ None
