use Rattle.std.proofs.Common.{take}
use Rattle.edge_io.specs.Kept.{lookup}
use Rattle.edge_io.specs.Names.{HasNamesOf}
use Rattle.edge_io.proofs.names.found_names.Given as goal

abbrev pub invariant-loop-file : goal.invariant-loop-file
invariant-loop-file l = HasNamesOf (lookup (take l.file-index l.files)) l.found
