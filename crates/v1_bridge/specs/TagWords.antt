-- Tags as a line of words changes them (docs/FORMATS.md, "Version 1").
use Rattle.std.specs.Prelude.{ℕ, ◌==◌, ◌&&◌, ◌||◌, not, Bool, Option, Some, None, List, [], ◌∷◌, drop, length, nat_lt, nat_le, codes, if◌then◌else◌}
use Rattle.std.specs.List.{filter, list_all, slice_split, sum_by}
use Rattle.std.specs.Str.{is_utf8}
use Rattle.outcome_fold.specs.Order.{in_byte_order, without}
use Rattle.sub_number.specs.Lines.{begins, has_bytes}

-- UTF-8 without NUL
abbrev pub is_utf8_text : List ℕ → Bool
is_utf8_text bytes = is_utf8 bytes && list_all (λ byte. not (byte == 0)) bytes

-- a text that is not empty
abbrev pub is_name : List ℕ → Bool
is_name bytes = nat_lt 0 (length bytes) && is_utf8_text bytes

-- a space or a tab
abbrev pub is_space_or_tab : ℕ → Bool
is_space_or_tab byte = byte == 32 || byte == 9

-- the words, none of which is empty
abbrev pub spaced_words : List ℕ → List (List ℕ)
spaced_words bytes = filter has_bytes (slice_split is_space_or_tab bytes)

-- a minus and some more
abbrev pub takes_away : List ℕ → Bool
takes_away word = begins (codes "-") word && nat_lt 1 (length word)

-- the tag that a word adds or takes away
abbrev pub tag_in : List ℕ → List ℕ
tag_in word = if takes_away word then drop 1 word else word

-- a word that begins with a minus takes the tag away; any other adds it
abbrev pub tags_after_word : List (List ℕ) → List ℕ → List (List ℕ)
tags_after_word before word = if takes_away word then without before (tag_in word ∷ []) else in_byte_order (tag_in word ∷ before)

-- the words in turn, where each tells a text that is not empty
abbrev pub tags_after_words : List (List ℕ) → List (List ℕ) → Option (List (List ℕ))
tags_after_words before [] = Some before
tags_after_words before (word ∷ words) = if is_name (tag_in word) then tags_after_words (tags_after_word before word) words else None

-- the most bytes of the tags of a set
abbrev pub most_tag_bytes : ℕ
most_tag_bytes = 65536

-- no more than so many bytes of tags
abbrev pub within_limit : Option (List (List ℕ)) → Option (List (List ℕ))
within_limit None = None
within_limit (Some names) = if nat_le (sum_by length names) most_tag_bytes then Some names else None

-- the tags behind a line of these words, where it is one
abbrev pub retagged : List (List ℕ) → List ℕ → Option (List (List ℕ))
retagged before bytes = within_limit (tags_after_words (in_byte_order before) (spaced_words bytes))
