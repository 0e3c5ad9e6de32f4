-- Options of one letter, as the long ones that they stand for (docs/COMMANDS.md, "Words").
use Rattle.std.specs.Prelude.{ℕ, Bool, true, false, Option, Some, None, List, [], ◌∷◌, codes, if◌then◌else◌}
use Rattle.std.specs.Str.{bytes_eq}
use Rattle.command_words.specs.declared.table.Kind.{Kind}
use Rattle.command_words.specs.declared.table.Kind.TheVariants.{Flag, Valued}

-- The word that stands for this one: a letter's long option. Every other word stands for itself.
abbrev pub long_word : List ℕ → List ℕ
long_word word = if bytes_eq word (codes "-q") then codes "--quiet" else word

-- The word itself, where it is the value of the option before it.
abbrev pub next_word : (value : Bool) → List ℕ → List ℕ
next_word value word = if value then word else long_word word

-- an option of this kind has a value
abbrev pub has_value : Option Kind → Bool
has_value (Some Valued) = true
has_value (Some Flag) = false
has_value None = false

-- whether the next word is the value of this one, which may be a value itself
abbrev pub asks_next : (List ℕ → Option Kind) → (value : Bool) → List ℕ → Bool
asks_next kinds value word = if value then false else has_value (kinds word)

-- all words, in their order, the first of which may be a value
abbrev pub long_words_behind : (List ℕ → Option Kind) → (value : Bool) → List (List ℕ) → List (List ℕ)
long_words_behind kinds value [] = []
long_words_behind kinds value (word ∷ words) = next_word value word ∷ long_words_behind kinds (asks_next kinds value word) words

-- all words, in their order
abbrev pub long_words : (List ℕ → Option Kind) → List (List ℕ) → List (List ℕ)
long_words kinds words = long_words_behind kinds false words
