use Rattle.std.proofs.Common.{◌≡◌, map, drop}
use Rattle.command_words.specs.Code.{item_meant}
use Rattle.testr_words.specs.Words.{names_in, if_texts}
use Rattle.testr_words.proofs.WordsLemmas.{behind}
use Rattle.testr_words.proofs.words.names.Given as goal

-- the names taken so far, with those of the items that are left
abbrev pub invariant-loop-item : goal.invariant-loop-item
invariant-loop-item l = behind l.names (names_in (map item_meant (drop l.item-index l.items))) ≡ if_texts (names_in (map item_meant l.items))
