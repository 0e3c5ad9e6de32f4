-- What the crate `regex` keeps of a pattern.
use Rattle.std.specs.Prelude.{◌≡◌, ℕ, ◌<◌, Bool, true, List, [], ◌∷◌, length, is_some, option_map, slice_index_or}
use Rattle.std.specs.List.{list_any}
use Rattle.partition_times.specs.Patterns.{first_match, is_found}
use Rattle.regex.specs.Patterns.{Re, default_config, find_str, span}
use Rattle.regex.specs.Strings.{regex_source, regex_config, IsReadFromSource}
use Rattle.regex.specs.declared.string.regex.Regex.{Regex}

-- the regex was read in this text, with the options that hold by default
pub record IsCompiled (pattern : List ℕ) (regex : Regex) : Type 0 where
  pub source : regex_source regex ≡ pattern
  pub config : regex_config regex ≡ default_config
  pub read : IsReadFromSource regex

-- what is searched for, instead of the pattern's text, finds the same in each list of bytes
pub record FindsSame (pattern : List ℕ) (re : Re) : Type 0 where
  pub same : (id : List ℕ) → ((k : ℕ) → slice_index_or id k 0 < 256) → option_map span (find_str re id 0) ≡ first_match pattern id

-- each of the patterns is searched for
pub record AreSearchers (patterns : List (List ℕ)) (res : List Re) : Type 0 where
  pub count : length res ≡ length patterns
  pub same : (id : List ℕ) → ((k : ℕ) → slice_index_or id k 0 < 256) → list_any (λ re. is_some (find_str re id 0)) res ≡ is_found patterns id

-- some pattern is found in the id, or there is none
abbrev pub is_picked : List (List ℕ) → List ℕ → Bool
is_picked [] id = true
is_picked (pattern ∷ patterns) id = is_found (pattern ∷ patterns) id
