-- Options of one letter, as the long ones that they stand for (docs/COMMANDS.md, "Filters").
use Rattle.std.specs.Prelude.{ℕ, Bool, true, false, nat_eq, List, [], ◌∷◌, ◌++◌, drop, codes, if◌then◌else◌}
use Rattle.std.specs.List.{starts_with}
use Rattle.std.specs.Str.{bytes_eq}
use Rattle.filter_cli.specs.Tools.{is_addition}

-- a pattern as the value of its option
abbrev pub with_pattern : List ℕ → List ℕ
with_pattern pattern = codes "--with-id=" ++ pattern

-- The word that stands for this one: a letter's long option, with the value that is joined to the letter. Every other word
-- stands for itself.
abbrev pub spelled_out : List ℕ → List ℕ
spelled_out word =
    if bytes_eq word (codes "-s") then codes "--success"
    else (if bytes_eq word (codes "-f") then codes "--no-failure"
    else (if bytes_eq word (codes "-e") then codes "--no-error"
    else (if bytes_eq word (codes "-F") then codes "--only-genuine-failures"
    else (if bytes_eq word (codes "-m") then codes "--with-id"
    else (if starts_with nat_eq word (codes "-m") then with_pattern (drop 2 word)
    else word)))))

-- The word itself, where it is the value of the option before it.
abbrev pub spelled_out_next : (value : Bool) → List ℕ → List ℕ
spelled_out_next value word = if value then word else spelled_out word

-- whether the next word is the value of this one, which may be a value itself
abbrev pub asks_for_value : (value : Bool) → List ℕ → Bool
asks_for_value value word = if value then false else is_addition (spelled_out word)

-- the words that stand for these, in their order, where the first of them may be the value of an option before it
abbrev pub all_spelled_out_behind : (value : Bool) → List (List ℕ) → List (List ℕ)
all_spelled_out_behind value [] = []
all_spelled_out_behind value (word ∷ words) = spelled_out_next value word ∷ all_spelled_out_behind (asks_for_value value word) words

-- all words, in their order
abbrev pub all_spelled_out : List (List ℕ) → List (List ℕ)
all_spelled_out words = all_spelled_out_behind false words
