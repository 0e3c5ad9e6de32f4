-- White space, and what stands between it (docs/FORMATS.md, "The configuration").
use Rattle.std.specs.Prelude.{ℕ, Bool, ◌||◌, ◌==◌, List, [], ◌∷◌, reverse, if◌then◌else◌}
use Rattle.std.specs.List.{filter, slice_split}
use Rattle.sub_number.specs.Lines.{has_bytes}

-- a space, a tab, a carriage return, a vertical tab or a form feed
abbrev pub is_white : ℕ → Bool
is_white byte = byte == 32 || byte == 9 || byte == 13 || byte == 11 || byte == 12

-- what separates the words of a list: white space, or a newline
abbrev pub is_gap : ℕ → Bool
is_gap byte = is_white byte || byte == 10

-- the bytes without the white space and the newlines at their front
abbrev pub front_trimmed : List ℕ → List ℕ
front_trimmed [] = []
front_trimmed (byte ∷ bytes) = if is_gap byte then front_trimmed bytes else byte ∷ bytes

-- the same at their end
abbrev pub end_trimmed : List ℕ → List ℕ
end_trimmed bytes = reverse (front_trimmed (reverse bytes))

-- The same at both ends. A line has no newline but at its end.
abbrev pub trimmed : List ℕ → List ℕ
trimmed bytes = end_trimmed (front_trimmed bytes)

-- the words between white space and newlines, in order
abbrev pub words_of : List ℕ → List (List ℕ)
words_of text = filter has_bytes (slice_split is_gap text)
