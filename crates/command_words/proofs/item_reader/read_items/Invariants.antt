use Rattle.std.proofs.Common.{◌≡◌, option_map, map, drop}
use Rattle.command_words.specs.Items.{texts, items_of}
use Rattle.command_words.specs.Code.{item_meant}
use Rattle.command_words.proofs.ItemLemmas.{behind}
use Rattle.command_words.proofs.item_reader.read_items.Given as goal

abbrev pub invariant-loop-word : goal.invariant-loop-word
invariant-loop-word g l =
    behind (g.T.OptionTable.kinds l.table) (map item_meant l.items.items) (option_map (λ name. name.now) l.asked) (texts (drop l.word-index l.words)) ≡ items_of (g.T.OptionTable.kinds l.table) (texts l.words)
