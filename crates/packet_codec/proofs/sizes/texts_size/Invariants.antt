use Rattle.std.proofs.Common.{◌≡◌, ◌*◌, ◌≤◌, ◌^◌, length, take}
use Rattle.std.specs.List.{flat_map}
use Rattle.std.specs.Prelude.{All}
use Rattle.sub_number.specs.Texts.{IsShortText}
use Rattle.packet_codec.specs.Canonical.{canonical_text}
use Rattle.packet_codec.proofs.sizes.texts_size.Given as goal

abbrev pub invariant-loop-text : goal.invariant-loop-text
invariant-loop-text l = record {
  size : l.sum ≡ length (flat_map canonical_text (take l.text-index l.texts));
  small : l.sum ≤ l.text-index * 2 ^ 31;
  texts : All IsShortText (take l.text-index l.texts);
}
