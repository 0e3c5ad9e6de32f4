use Rattle.std.proofs.Common.{◌≡◌, length, take}
use Rattle.edge_io.specs.Kept.{lookup}
use Rattle.edge_io.proofs.published_files.copied_files.Given as goal

abbrev pub invariant-loop-file : goal.invariant-loop-file
invariant-loop-file l = record {
  same : lookup l.copies.items ≡ lookup (take l.file-index l.files);
  count : length l.copies.items ≡ l.file-index;
}
