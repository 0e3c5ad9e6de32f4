-- What a list in a file lists: ids, or patterns (docs/FORMATS.md, "Lists of ids" and "Lists of patterns").
use Rattle.std.specs.Prelude.{ℕ, ◌+◌, ◌-◌, ◌==◌, Bool, true, false, Option, None, Some, Result, Ok, Err, List, [], ◌∷◌, map, if◌then◌else◌}
use Rattle.std.specs.List.{filter, before_first}
use Rattle.bstr.specs.Text.{lines_of}
use Rattle.sub_number.specs.Lines.{has_bytes}
use Rattle.testr_conf.specs.White.{trimmed}
use Rattle.testr_conf.specs.Lines.{is_plain_line}
use Rattle.testr_conf.specs.declared.ids.IdsFault.{IdsFault}
use Rattle.testr_conf.specs.declared.ids.IdsFault.TheVariants.{NotText}

-- `#`
abbrev pub is_hash : ℕ → Bool
is_hash byte = byte == 35

-- What a line lists: all of it, or where the list has comments what stands in front of its first `#`, without the newline and
-- the white space at both ends.
abbrev pub entry_of : (comments : Bool) → List ℕ → List ℕ
entry_of false line = trimmed line
entry_of true line = trimmed (before_first is_hash line)

-- what each line lists
abbrev pub entries_of : (comments : Bool) → List ℕ → List (List ℕ)
entries_of comments text = map (entry_of comments) (lines_of text)

-- the number of the first entry that is no text, where the first entry has this number
abbrev pub first_other : ℕ → List (List ℕ) → Option ℕ
first_other number [] = None
first_other number (entry ∷ entries) = if is_plain_line entry then first_other (number + 1) entries else Some number

-- the texts, unless a line was no text
abbrev pub unless_other : Option ℕ → List (List ℕ) → Result (List (List ℕ)) IdsFault
unless_other None texts = Ok texts
unless_other (Some number) texts = Err (NotText number)

-- the entries that are not empty, where all are texts; lines are counted from 1
abbrev pub listed_texts : (comments : Bool) → List ℕ → Result (List (List ℕ)) IdsFault
listed_texts comments text = unless_other (first_other 1 (entries_of comments text)) (filter has_bytes (entries_of comments text))

-- a list of ids has no comments
abbrev pub ids_in : List ℕ → Result (List (List ℕ)) IdsFault
ids_in text = listed_texts false text

-- a list of patterns has
abbrev pub patterns_in : List ℕ → Result (List (List ℕ)) IdsFault
patterns_in text = listed_texts true text

-- the number of the entry that has this index among those that are not empty, where the first entry has this number
abbrev pub number_of_entry : (number index : ℕ) → List (List ℕ) → ℕ
number_of_entry number index [] = number
number_of_entry number index (entry ∷ entries) =
    if has_bytes entry then (if index == 0 then number else number_of_entry (number + 1) (index - 1) entries)
    else number_of_entry (number + 1) index entries

-- the number of the line that has the pattern of this index
abbrev pub line_of_pattern : List ℕ → (index : ℕ) → ℕ
line_of_pattern text index = number_of_entry 1 index (entries_of true text)
