use Rattle.std.proofs.Common.{◌≡◌, map, drop, option_map}
use Rattle.command_words.specs.Code.{item_meant}
use Rattle.command_words.specs.Items.{values_in}
use Rattle.testr_words.specs.Words.{last_value_behind, last_of}
use Rattle.testr_words.proofs.values.last_value.Given as goal

-- the last value so far, and those of the items that are left
abbrev pub invariant-loop-item : goal.invariant-loop-item
invariant-loop-item l = last_value_behind (option_map (λ value. value.now) l.last) (values_in l.key (map item_meant (drop l.item-index l.items))) ≡ last_of (values_in l.key (map item_meant l.items))
