use Rattle.std.proofs.Common.{◌≡◌, take}
use Rattle.std.specs.Option.{option_map}
use Rattle.edge_io.specs.Kept.{lookup}
use Rattle.edge_io.proofs.published_files.last_bytes_of.Given as goal

abbrev pub invariant-loop-file : goal.invariant-loop-file
invariant-loop-file l = option_map (λ bytes. bytes.now) l.found ≡ lookup (take l.file-index l.files) l.name
