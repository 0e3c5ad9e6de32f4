use Rattle.std.proofs.Common.{◌≡◌, map, take, codes}
use Rattle.command_words.specs.Code.{item_meant}
use Rattle.command_words.specs.Items.{values_in}
use Rattle.sub_export.specs.Output as spec
use Rattle.sub_export.proofs.told_items.tags_in.Given as goal

abbrev pub invariant-loop-item : goal.invariant-loop-item
invariant-loop-item l = l.tags ≡ values_in (codes "--tag") (map item_meant (take l.item-index l.items))
