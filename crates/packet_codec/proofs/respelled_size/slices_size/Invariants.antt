use Rattle.std.proofs.Common.{◌≡◌, ◌+◌, ◌*◌, ◌≤◌, ◌^◌, length, take}
use Rattle.std.specs.List.{flat_map}
use Rattle.packet_codec.specs.Canonical.{canonical_text}
use Rattle.packet_codec.specs.Retagging.{lent_bytes}
use Rattle.packet_codec.proofs.respelled_size.slices_size.Given as goal

abbrev pub invariant-loop-slice : goal.invariant-loop-slice
invariant-loop-slice l = record {
  size : l.sum ≡ length (flat_map canonical_text (lent_bytes (take l.slice-index l.slices)));
  small : l.sum ≤ l.slice-index * (2 ^ 63 + 4);
}
