use Rattle.std.proofs.Common.{◌≡◌, map, drop}
use Rattle.std.specs.List.{fold}
use Rattle.command_words.specs.Code.{item_meant}
use Rattle.testr_words.specs.Formats.{format_behind, format_in}
use Rattle.testr_words.proofs.format.format_in.Given as goal

abbrev pub invariant-loop-item : goal.invariant-loop-item
invariant-loop-item l = fold format_behind l.kind (map item_meant (drop l.item-index l.items)) ≡ format_in (map item_meant l.items)
