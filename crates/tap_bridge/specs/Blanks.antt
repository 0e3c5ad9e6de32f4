-- White space of a line (docs/FORMATS.md, "TAP"): spaces and tabs.
use Rattle.std.specs.Prelude.{ℕ, ◌-◌, Bool, false, ◌||◌, ◌==◌, List, [], ◌∷◌, length, take, drop}
use Rattle.std.specs.List.{prefix_len, suffix_len, before_first}

-- a space or a tab
abbrev pub is_blank : ℕ → Bool
is_blank byte = byte == 32 || byte == 9

-- without the blanks at the front
abbrev pub trim_start : List ℕ → List ℕ
trim_start bytes = drop (prefix_len is_blank bytes) bytes

-- without the blanks at the end
abbrev pub trim_end : List ℕ → List ℕ
trim_end bytes = take (length bytes - suffix_len is_blank bytes) bytes

-- the bytes without the blanks at both ends
abbrev pub trim : List ℕ → List ℕ
trim bytes = trim_end (trim_start bytes)

-- the bytes begin with a blank
abbrev pub begins_blank : List ℕ → Bool
begins_blank [] = false
begins_blank (byte ∷ bytes) = is_blank byte

-- what stands up to the first blank
abbrev pub first_word : List ℕ → List ℕ
first_word bytes = before_first is_blank bytes

-- what stands behind the first word
abbrev pub behind_word : List ℕ → List ℕ
behind_word bytes = drop (length (first_word bytes)) bytes
