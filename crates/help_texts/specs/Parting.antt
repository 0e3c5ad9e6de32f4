-- How the code keeps words that are parted.
use Rattle.std.specs.Prelude.{ℕ, Option, Some, None, List, [], ◌∷◌, ◌++◌, option_map, string_bytes, if◌then◌else◌}
use Rattle.std.specs.Str.{bytes_eq}
use Rattle.help_texts.specs.declared.folder_words.Turn.{Turn}
use Rattle.help_texts.specs.declared.folder_words.Turn.TheVariants.{Face, Any, Value, Plain}
use Rattle.help_texts.specs.declared.folder_words.Parting.{Parting}
use Rattle.help_texts.specs.Asking.{words_as_bytes, has_commands}
use Rattle.help_texts.specs.Folder.{folder_word, folder_end_word, handed_on, folder_behind, kept_words}

-- what may come behind a word that is handed on
abbrev pub turn_behind : Turn → List ℕ → Turn
turn_behind Face word = if has_commands word then Any else Plain
turn_behind Any word = if bytes_eq word folder_end_word then Plain else Any
turn_behind Value word = Plain
turn_behind Plain word = Plain

-- which of the words that are left are handed on
abbrev pub kept_from : Turn → List (List ℕ) → List (List ℕ)
kept_from Face words = kept_words words
kept_from Any words = handed_on words
kept_from Value words = handed_on (folder_word ∷ words)
kept_from Plain words = words

-- the folder that words name from the face on, or the one that was found before them
abbrev pub folder_named : Option (List ℕ) → List (List ℕ) → Option (List ℕ)
folder_named found [] = found
folder_named found (face ∷ words) = if has_commands face then folder_behind found words else found

-- the folder that the words name which are left, or the one that was found before them
abbrev pub folder_from : Turn → Option (List ℕ) → List (List ℕ) → Option (List ℕ)
folder_from Face found words = folder_named found words
folder_from Any found words = folder_behind found words
folder_from Value found words = folder_behind found (folder_word ∷ words)
folder_from Plain found words = found

-- all words that are handed on, where these are left
abbrev pub kept_with : Parting → List (List ℕ) → List (List ℕ)
kept_with parting words = words_as_bytes parting.words.items ++ kept_from parting.turn words

-- the folder of all words, where these are left
abbrev pub folder_with : Parting → List (List ℕ) → Option (List ℕ)
folder_with parting words = folder_from parting.turn (option_map string_bytes parting.folder) words
