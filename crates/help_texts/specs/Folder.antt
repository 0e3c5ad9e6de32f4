-- Which words name the folder to work in, and which are handed on (docs/COMMANDS.md, "The folder to work in").
use Rattle.std.specs.Prelude.{ℕ, Option, Some, None, List, [], ◌∷◌, codes, if◌then◌else◌}
use Rattle.std.specs.Str.{bytes_eq}
use Rattle.help_texts.specs.Asking.{has_commands}

-- the option whose value is the folder
abbrev pub folder_word : List ℕ
folder_word = codes "-d"

-- the word behind which no word is this option
abbrev pub folder_end_word : List ℕ
folder_end_word = codes "--"

-- Behind the face, the words without each such option and its value, which is the next word whatever it is. One that has
-- no value stays.
abbrev pub handed_on : List (List ℕ) → List (List ℕ)
handed_on [] = []
handed_on (word ∷ []) = word ∷ []
handed_on (word ∷ value ∷ words) =
    if bytes_eq word folder_end_word then word ∷ value ∷ words
    else (if bytes_eq word folder_word then handed_on words
    else word ∷ handed_on (value ∷ words))

-- the value of the last such option, or the folder that was found before them
abbrev pub folder_behind : Option (List ℕ) → List (List ℕ) → Option (List ℕ)
folder_behind found [] = found
folder_behind found (word ∷ []) = found
folder_behind found (word ∷ value ∷ words) =
    if bytes_eq word folder_end_word then found
    else (if bytes_eq word folder_word then folder_behind (Some value) words
    else folder_behind found (value ∷ words))

-- The words that are handed on. The faces that have commands have the option.
abbrev pub kept_words : List (List ℕ) → List (List ℕ)
kept_words [] = []
kept_words (face ∷ words) = if has_commands face then face ∷ handed_on words else face ∷ words

-- the folder that the words name, where they name one
abbrev pub named_folder : List (List ℕ) → Option (List ℕ)
named_folder [] = None
named_folder (face ∷ words) = if has_commands face then folder_behind None words else None
