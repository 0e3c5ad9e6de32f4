-- Which words ask the program to tell of itself (docs/COMMANDS.md, "Words that the program answers itself").
use Rattle.std.specs.Prelude.{ℕ, Bool, false, not, ◌&&◌, ◌||◌, List, [], ◌∷◌, map, codes, String, string_bytes, if◌then◌else◌}
use Rattle.std.specs.List.{list_any}
use Rattle.std.specs.Str.{bytes_eq}
use Rattle.std.specs.declared.alloc.Global.{Global}

-- the words as lists of bytes
abbrev pub words_as_bytes : List (String Global) → List (List ℕ)
words_as_bytes words = map string_bytes words

-- the face has commands
abbrev pub has_commands : List ℕ → Bool
has_commands face = bytes_eq face (codes "testr") || bytes_eq face (codes "stestr")

-- the word behind a face or a command that asks for its text
abbrev pub help_word : List ℕ
help_word = codes "--help"

-- the same of a filter, in one letter
abbrev pub short_help_word : List ℕ
short_help_word = codes "-h"

-- the word that asks which program this is
abbrev pub version_word : List ℕ
version_word = codes "--version"

-- the commands that have a text
abbrev pub commands : List (List ℕ)
commands =
    codes "init" ∷ codes "load" ∷ codes "run" ∷ codes "list-tests" ∷ codes "last" ∷ codes "failing" ∷ codes "slowest"
    ∷ codes "stats" ∷ codes "selftest" ∷ codes "upgrade" ∷ []

-- the filters, each of which has a text
abbrev pub filters : List (List ℕ)
filters =
    codes "subunit-filter" ∷ codes "subunit-tags" ∷ codes "subunit-ls" ∷ codes "subunit-stats"
    ∷ codes "subunit-trace" ∷ codes "tap2subunit" ∷ codes "subunit2tap" ∷ codes "subunit2csv" ∷ codes "subunit2junitxml" ∷ codes "subunit-output"
    ∷ codes "subunit-1to2" ∷ codes "subunit-2to1" ∷ []

-- the word is one of these
abbrev pub is_one_of : List (List ℕ) → List ℕ → Bool
is_one_of names word = list_any (bytes_eq word) names

-- what stands alone behind such a face and asks for a text
abbrev pub asks_of_program : List ℕ → Bool
asks_of_program word = bytes_eq word help_word || bytes_eq word version_word

-- a filter's word that asks for its text; `subunit-tags` reads the short one as a tag to remove
abbrev pub asks_of_filter : List ℕ → List ℕ → Bool
asks_of_filter face word = bytes_eq word help_word || (bytes_eq word short_help_word && not (bytes_eq face (codes "subunit-tags")))

-- a face and one word ask for a text
abbrev pub asks_by_two : List ℕ → List ℕ → Bool
asks_by_two face word = if has_commands face then asks_of_program word else is_one_of filters face && asks_of_filter face word

-- the word is a command of the face that has a text; to `stestr`, `list` is one more name of `list-tests`
abbrev pub is_command : List ℕ → List ℕ → Bool
is_command face word = (bytes_eq face (codes "stestr") && bytes_eq word (codes "list")) || is_one_of commands word

-- a face, a command and one word ask for a text
abbrev pub asks_by_three : List ℕ → List ℕ → List ℕ → Bool
asks_by_three face command word = has_commands face && (is_command face command && bytes_eq word help_word)

-- The words ask for a text, which is printed in place of all else that they might mean. There are two words or three.
abbrev pub asks : List (List ℕ) → Bool
asks [] = false
asks (face ∷ []) = false
asks (face ∷ word ∷ []) = asks_by_two face word
asks (face ∷ command ∷ word ∷ []) = asks_by_three face command word
asks (face ∷ command ∷ word ∷ more ∷ words) = false
