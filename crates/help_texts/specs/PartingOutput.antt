-- How the code keeps words that are parted from the file of the output.
use Rattle.std.specs.Prelude.{ℕ, Option, List, [], ◌∷◌, ◌++◌, option_map, string_bytes, if◌then◌else◌}
use Rattle.help_texts.specs.declared.output_words.Place.{Place}
use Rattle.help_texts.specs.declared.output_words.Place.TheVariants.{Front, Any, Letter, Long, Plain}
use Rattle.help_texts.specs.declared.output_words.PartingOutput.{PartingOutput}
use Rattle.help_texts.specs.Asking.{words_as_bytes, is_one_of}
use Rattle.help_texts.specs.Output.{letter_word, output_word, with_output, kept_behind, file_behind, words_without_output}

-- which of the words that are left are handed on
abbrev pub kept_at : Place → List (List ℕ) → List (List ℕ)
kept_at Front words = words_without_output words
kept_at Any words = kept_behind words
kept_at Letter words = kept_behind (letter_word ∷ words)
kept_at Long words = kept_behind (output_word ∷ words)
kept_at Plain words = words

-- the file that words name from the filter's name on, or the one that was found before them
abbrev pub output_file_named : Option (List ℕ) → List (List ℕ) → Option (List ℕ)
output_file_named found [] = found
output_file_named found (face ∷ words) = if is_one_of with_output face then file_behind found words else found

-- the file that the words name which are left, or the one that was found before them
abbrev pub file_at : Place → Option (List ℕ) → List (List ℕ) → Option (List ℕ)
file_at Front found words = output_file_named found words
file_at Any found words = file_behind found words
file_at Letter found words = file_behind found (letter_word ∷ words)
file_at Long found words = file_behind found (output_word ∷ words)
file_at Plain found words = found

-- all words that are handed on, where these are left
abbrev pub all_kept : PartingOutput → List (List ℕ) → List (List ℕ)
all_kept parting words = words_as_bytes parting.words.items ++ kept_at parting.place words

-- the file of all words, where these are left
abbrev pub file_of_all : PartingOutput → List (List ℕ) → Option (List ℕ)
file_of_all parting words = file_at parting.place (option_map string_bytes parting.file) words
