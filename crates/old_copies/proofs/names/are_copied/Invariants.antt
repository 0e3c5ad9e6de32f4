use Rattle.std.proofs.Common.{take}
use Rattle.std.specs.Prelude.{All}
use Rattle.old_copies.specs.Copying.{IsCopiedFirst}
use Rattle.old_copies.proofs.names.are_copied.Given as goal

abbrev pub invariant-loop-name : goal.invariant-loop-name
invariant-loop-name l = All (IsCopiedFirst l.count) (take l.name-index l.names)
