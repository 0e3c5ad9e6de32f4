-- Which words name the file that a filter writes, and which are handed on (docs/COMMANDS.md, "A filter's output as a file").
use Rattle.std.specs.Prelude.{ℕ, Bool, nat_eq, Option, Some, None, is_some, List, [], ◌∷◌, ◌++◌, drop, codes, ◌||◌, if◌then◌else◌}
use Rattle.std.specs.List.{starts_with}
use Rattle.std.specs.Str.{bytes_eq}
use Rattle.help_texts.specs.Asking.{is_one_of}

-- the option in one letter
abbrev pub letter_word : List ℕ
letter_word = codes "-o"

-- the long option
abbrev pub output_word : List ℕ
output_word = codes "--output-to"

-- the long option with its value joined to it
abbrev pub output_front : List ℕ
output_front = codes "--output-to="

-- The filters that have the option. To `subunit-tags` each word that begins with a dash is a tag to remove, and what
-- `subunit-output` writes is small.
abbrev pub with_output : List (List ℕ)
with_output =
    codes "subunit-filter" ∷ codes "subunit-ls" ∷ codes "subunit-stats" ∷ codes "subunit-trace" ∷ codes "tap2subunit"
    ∷ codes "subunit2tap" ∷ codes "subunit2csv" ∷ codes "subunit2junitxml" ∷ codes "subunit-1to2" ∷ codes "subunit-2to1" ∷ []

-- whether the word behind this one is the file
abbrev pub takes_next : List ℕ → Bool
takes_next word = bytes_eq word letter_word || bytes_eq word output_word

-- the file that is joined to the long option
abbrev pub long_file : List ℕ → Option (List ℕ)
long_file word = if starts_with nat_eq word output_front then Some (drop 12 word) else None

-- the file that is joined to one of the two
abbrev pub either_file : List ℕ → Option (List ℕ)
either_file word = if starts_with nat_eq word letter_word then Some (drop 2 word) else long_file word

-- the file that is joined to the option
abbrev pub joined_file : List ℕ → Option (List ℕ)
joined_file word = if takes_next word then None else either_file word

-- the word, where it is handed on
abbrev pub kept_word : List ℕ → List (List ℕ)
kept_word word = if is_some (joined_file word) then [] else word ∷ []

-- of two files the later one
abbrev pub later_file : Option (List ℕ) → Option (List ℕ) → Option (List ℕ)
later_file None found = found
later_file (Some file) found = Some file

-- Behind the filter's name, the words without each such option and its value, which may be the next word, whatever that
-- is. One that has no value stays.
abbrev pub kept_behind : List (List ℕ) → List (List ℕ)
kept_behind [] = []
kept_behind (word ∷ []) = kept_word word
kept_behind (word ∷ value ∷ words) = if takes_next word then kept_behind words else kept_word word ++ kept_behind (value ∷ words)

-- the value of the last such option, or the file that was found before them
abbrev pub file_behind : Option (List ℕ) → List (List ℕ) → Option (List ℕ)
file_behind found [] = found
file_behind found (word ∷ []) = later_file (joined_file word) found
file_behind found (word ∷ value ∷ words) =
    if takes_next word then file_behind (Some value) words
    else file_behind (later_file (joined_file word) found) (value ∷ words)

-- The words that are handed on.
abbrev pub words_without_output : List (List ℕ) → List (List ℕ)
words_without_output [] = []
words_without_output (face ∷ words) = if is_one_of with_output face then face ∷ kept_behind words else face ∷ words

-- The file that the words name, where they name one.
abbrev pub output_file : List (List ℕ) → Option (List ℕ)
output_file [] = None
output_file (face ∷ words) = if is_one_of with_output face then file_behind None words else None
