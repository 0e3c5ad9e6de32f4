use Rattle.std.proofs.Common.{◌≡◌, ◌++◌, take}
use Rattle.std.specs.List.{flat_map}
use Rattle.packet_codec.specs.Canonical.{canonical_text}
use Rattle.packet_codec.specs.Retagging.{lent_bytes}
use Rattle.packet_codec.proofs.respelled_bytes.put_slices.Given as goal

abbrev pub invariant-loop-slice : goal.invariant-loop-slice
invariant-loop-slice l = l.out.items ≡ l.initial.out.items ++ flat_map canonical_text (lent_bytes (take l.slice-index l.slices))
