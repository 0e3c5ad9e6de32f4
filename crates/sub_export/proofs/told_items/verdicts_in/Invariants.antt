use Rattle.std.proofs.Common.{map, take}
use Rattle.command_words.specs.Code.{item_meant}
use Rattle.sub_export.specs.Output as spec
use Rattle.sub_export.specs.Said.{AreVerdicts}
use Rattle.sub_export.proofs.told_items.verdicts_in.Given as goal

abbrev pub invariant-loop-item : goal.invariant-loop-item
invariant-loop-item l = AreVerdicts l.verdicts (spec.verdicts_in (map item_meant (take l.item-index l.items)))
