use Rattle.std.proofs.Common.{◌≡◌, map, drop}
use Rattle.command_words.specs.Code.{item_meant}
use Rattle.filter_cli.specs.Selecting as selecting
use Rattle.filter_cli.proofs.selection.stands.Given as goal

abbrev pub invariant-loop-item : goal.invariant-loop-item
invariant-loop-item l = selecting.stands l.switch l.stands (map item_meant (drop l.item-index l.items)) ≡ selecting.stands l.switch l.first (map item_meant l.items)
