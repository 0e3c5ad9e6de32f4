-- How the code keeps what words are.
use Rattle.std.specs.Prelude.{ℕ, Option, Some, None, List}
use Rattle.command_words.specs.declared.table.Kind.{Kind}
use Rattle.command_words.specs.declared.item.Item as code
use Rattle.command_words.specs.declared.item.Item.TheVariants as code_item
use Rattle.command_words.specs.declared.item_reader.Meaning as code_meaning
use Rattle.command_words.specs.declared.item_reader.Meaning.TheVariants as meant
use Rattle.command_words.specs.Items.{Item, flag, valued, name, Meaning, refused, is_item, asks, meaning_of}

-- the item that the code's item stands for
abbrev pub item_meant : code.Item → Item
item_meant (code_item.Flag key) = flag key.now
item_meant (code_item.Valued key value) = valued key.now value.now
item_meant (code_item.Name word) = name word.now

-- the meaning that the code's meaning stands for
abbrev pub shown_meaning : code_meaning.Meaning → Meaning
shown_meaning meant.Refused = refused
shown_meaning (meant.Is item) = is_item (item_meant item)
shown_meaning (meant.Asks key) = asks key.now

-- what a word means behind the option that asks for its value, where there is one
abbrev pub meaning_behind : (List ℕ → Option Kind) → Option (List ℕ) → List ℕ → Meaning
meaning_behind kinds None word = meaning_of kinds word
meaning_behind kinds (Some key) word = is_item (valued key word)
