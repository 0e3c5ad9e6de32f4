-- What a pattern is and where it is found, by the definitions of the crates `regex` and `regex_syntax`, with the options that hold by default (docs/FORMATS.md, "Patterns").
use Rattle.std.specs.Prelude.{◌≡◌, ◌⊎◌, ℕ, ◌<◌, ◌≤◌, Bool, List, [], ◌∷◌, length, Option, None, Some, IsSomeAnd, is_some, option_map, chars, slice_index_or}
use Rattle.std.specs.List.{filter, list_any}
use Rattle.regex_syntax.specs.Grammar.{Names, read}
use Rattle.regex_syntax.specs.Brackets.{Nested}
use Rattle.regex.specs.Patterns.{Re, default_config, find_str, span}

-- what the grammar reads in a text
abbrev pub reading : List ℕ → Option (Nested Re × Names)
reading pattern = read default_config (chars pattern)

-- a pattern is read in the text, and it is not nested too deep
abbrev pub IsPattern : List ℕ → Type 0
IsPattern pattern = IsSomeAnd (reading pattern) (λ (re, _). re.depth ≤ default_config.nest_limit)

-- no pattern is read in the text, or one that is nested too deep
abbrev pub IsBadPattern : List ℕ → Type 0
IsBadPattern pattern = (reading pattern ≡ None) ⊎ IsSomeAnd (reading pattern) (λ (re, _). default_config.nest_limit < re.depth)

-- the text with this index is the first bad one
pub record IsFirstBad (patterns : List (List ℕ)) (index : ℕ) : Type 0 where
  pub in_range : index < length patterns
  pub bad : IsBadPattern (slice_index_or patterns index [])
  pub good_before : (k : ℕ) → k < index → IsPattern (slice_index_or patterns k [])

-- the text is the first bad one of the patterns, in their order
pub record IsFirstBadText (patterns : List (List ℕ)) (text : List ℕ) : Type 0 where
  pub index : ℕ
  pub first : IsFirstBad patterns index
  pub there : text ≡ slice_index_or patterns index []

-- where the first match of what was read begins and ends in the id
abbrev pub match_of : Option (Nested Re × Names) → List ℕ → Option (ℕ × ℕ)
match_of None id = None
match_of (Some (re, _)) id = option_map span (find_str re.value id 0)

-- where the first match of the pattern begins and ends in the id
abbrev pub first_match : List ℕ → List ℕ → Option (ℕ × ℕ)
first_match pattern id = match_of (reading pattern) id

-- some of the patterns is found in the id
abbrev pub is_found : List (List ℕ) → List ℕ → Bool
is_found patterns id = list_any (λ pattern. is_some (first_match pattern id)) patterns

-- the ids in which some pattern is found, in their order, and all of them where there is no pattern
abbrev pub picked_ids : List (List ℕ) → List (List ℕ) → List (List ℕ)
picked_ids [] ids = ids
picked_ids (pattern ∷ patterns) ids = filter (is_found (pattern ∷ patterns)) ids
