use Rattle.std.proofs.Common.{◌≡◌, map, take}
use Rattle.command_words.specs.Code.{item_meant}
use Rattle.filter_cli.specs.Selecting as selecting
use Rattle.filter_cli.proofs.selection.patterns_in.Given as goal

abbrev pub invariant-loop-item : goal.invariant-loop-item
invariant-loop-item l = l.patterns ≡ selecting.patterns_asked (map item_meant (take l.item-index l.items))
