use Rattle.std.proofs.Common.{◌≡◌, map, drop}
use Rattle.command_words.specs.Code.{item_meant}
use Rattle.command_words.specs.Items.{values_in}
use Rattle.testr_words.specs.Words.{texts_in}
use Rattle.testr_words.proofs.WordsLemmas.{behind}
use Rattle.testr_words.proofs.values.texts_in.Given as goal

-- the values taken so far, with those of the items that are left
abbrev pub invariant-loop-item : goal.invariant-loop-item
invariant-loop-item l = behind l.values (values_in l.key (map item_meant (drop l.item-index l.items))) ≡ texts_in l.key (map item_meant l.items)
