use Rattle.std.proofs.Common.{◌≡◌, map, drop}
use Rattle.std.specs.List.{fold}
use Rattle.command_words.specs.Code.{item_meant}
use Rattle.testr_words.specs.Lives.{live_kind_behind, live_in}
use Rattle.testr_words.proofs.live_kind.live_in.Given as goal

abbrev pub invariant-loop-item : goal.invariant-loop-item
invariant-loop-item l = fold live_kind_behind l.kind (map item_meant (drop l.item-index l.items)) ≡ live_in (map item_meant l.items)
