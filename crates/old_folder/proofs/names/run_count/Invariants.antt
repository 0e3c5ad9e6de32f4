use Rattle.std.proofs.Common.{take}
use Rattle.old_folder.specs.Looking.{NamesCount}
use Rattle.old_folder.proofs.names.run_count.Given as goal

abbrev pub invariant-loop-name : goal.invariant-loop-name
invariant-loop-name l = NamesCount (take l.name-index l.names) l.next l.count
