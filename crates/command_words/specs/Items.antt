-- Words cut into options, values and names (docs/COMMANDS.md, "Words").
use Rattle.std.specs.Prelude.{ℕ, ◌^◌, Bool, false, not, ◌&&◌, ◌==◌, nat_lt, nat_eq, Option, Some, None, List, [], ◌∷◌, length, map, codes, String, string_bytes, if◌then◌else◌}
use Rattle.std.specs.List.{list_any, starts_with, before_first, after_first, position_or_len, flat_map}
use Rattle.std.specs.Option.{option_map, option_to_list}
use Rattle.std.specs.Str.{bytes_eq}
use Rattle.std.specs.declared.alloc.Global.{Global}
use Rattle.command_words.specs.declared.table.Kind.{Kind}
use Rattle.command_words.specs.declared.table.Kind.TheVariants.{Flag, Valued}

-- the words as lists of bytes
abbrev pub texts : List (String Global) → List (List ℕ)
texts words = map string_bytes words

-- What a word is, or an option and the word that is its value.
pub data Item : Type 0 where
  -- an option without a value
  flag : List ℕ → Item
  -- an option and its value
  valued : List ℕ → List ℕ → Item
  -- any other word
  name : List ℕ → Item

-- a word is UTF-8 as it comes; a text has no NUL, and fewer than 2^30 bytes
abbrev pub is_text : List ℕ → Bool
is_text word = not (list_any (λ byte. byte == 0) word) && nat_lt (length word) (2 ^ 30)

-- what a word is by itself
pub data Meaning : Type 0 where
  refused : Meaning
  is_item : Item → Meaning
  -- an option whose value is the next word
  asks : List ℕ → Meaning

-- the byte that parts an option's name from its value
abbrev pub equals_sign : ℕ → Bool
equals_sign byte = byte == 61

-- an option's name, up to the first equals sign
abbrev pub option_name : List ℕ → List ℕ
option_name word = before_first equals_sign word

-- what stands behind the first equals sign, where there is one
abbrev pub option_value : List ℕ → Option (List ℕ)
option_value word = if nat_lt (position_or_len equals_sign word) (length word) then Some (after_first equals_sign word) else None

-- A flag has no value. Where an option with a value has none in its word, the next word is its value.
abbrev pub option_meaning : Option Kind → List ℕ → Option (List ℕ) → Meaning
option_meaning None key value = refused
option_meaning (Some Flag) key None = is_item (flag key)
option_meaning (Some Flag) key (Some value) = refused
option_meaning (Some Valued) key None = asks key
option_meaning (Some Valued) key (Some value) = is_item (valued key value)

-- two dashes begin an option, and one dash is a name alone
abbrev pub meaning_of : (List ℕ → Option Kind) → List ℕ → Meaning
meaning_of kinds word =
    if starts_with nat_eq word (codes "--") then option_meaning (kinds (option_name word)) (option_name word) (option_value word)
    else (if starts_with nat_eq word (codes "-") && nat_lt 1 (length word) then refused
    else is_item (name word))

-- the rest of the items, as the meaning of a word says: behind the option that asks for a value, or behind none
abbrev pub with_rest : Meaning → (List ℕ → Option (List Item)) → Option (List Item) → Option (List Item)
with_rest refused behind rest = None
with_rest (is_item item) behind rest = option_map (λ items. item ∷ items) rest
with_rest (asks key) behind rest = behind key

-- what the words are behind the option that asks for its value, where there is one; none where one of them is refused
abbrev pub items_behind : (List ℕ → Option Kind) → Option (List ℕ) → List (List ℕ) → Option (List Item)
items_behind kinds None [] = Some []
items_behind kinds (Some key) [] = None
items_behind kinds None (word ∷ words) = if is_text word then with_rest (meaning_of kinds word) (λ key. items_behind kinds (Some key) words) (items_behind kinds None words) else None
items_behind kinds (Some key) (word ∷ words) = if is_text word then option_map (λ items. valued key word ∷ items) (items_behind kinds None words) else None

-- what the words are, in their order
abbrev pub items_of : (List ℕ → Option Kind) → List (List ℕ) → Option (List Item)
items_of kinds words = items_behind kinds None words

-- Flags among items.

-- the item is this option, without a value
abbrev pub is_flag : List ℕ → Item → Bool
is_flag key (flag given) = bytes_eq given key
is_flag key (valued option value) = false
is_flag key (name word) = false

-- the option stands among the items, however often
abbrev pub has_flag : List ℕ → List Item → Bool
has_flag key items = list_any (is_flag key) items

-- a word that is no option
abbrev pub name_of : Item → Option (List ℕ)
name_of (flag given) = None
name_of (valued option value) = None
name_of (name word) = Some word

-- the value that the item gives to this option
abbrev pub value_of : List ℕ → Item → Option (List ℕ)
value_of option (flag given) = None
value_of option (valued given value) = if bytes_eq given option then Some value else None
value_of option (name word) = None

-- the values of this option, in the order of the words
abbrev pub values_in : List ℕ → List Item → List (List ℕ)
values_in option items = flat_map (λ item. option_to_list (value_of option item)) items
