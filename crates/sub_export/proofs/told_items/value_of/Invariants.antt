use Rattle.std.proofs.Common.{◌≡◌, map, option_map, drop}
use Rattle.command_words.specs.Code.{item_meant}
use Rattle.command_words.specs.Items.{values_in}
use Rattle.sub_export.specs.Output as spec
use Rattle.sub_export.proofs.told_items.value_of.Given as goal

abbrev pub invariant-loop-item : goal.invariant-loop-item
invariant-loop-item l =
    spec.last_value (option_map (λ value. value.now) l.last) (values_in l.option (map item_meant (drop l.item-index l.items)))
    ≡ spec.last_value_in l.option (map item_meant l.items)
