-- The texts of lists and counts of a stream (docs/COMMANDS.md, "Printed texts").
use Rattle.std.specs.Prelude.{ℕ, ◌-◌, Bool, Option, None, Some, List, [], ◌∷◌, ◌++◌, length, replicate, codes, if◌then◌else◌}
use Rattle.std.specs.List.{flat_map}
use Rattle.std.specs.Fmt.{decimal}
use Rattle.outcome_fold.specs.declared.row.Row.{Row}
use Rattle.outcome_fold.specs.declared.row.Counts.{Counts}
use Rattle.outcome_fold.specs.Answers.{counts_of, seen_tags_of}
use Rattle.sub_number.specs.Seconds.{printed_seconds}
use Rattle.outcome_fold.specs.Lines.{newline}

-- the time behind an id, where times are asked for and it has one
abbrev pub time_shown : Option ℕ → Bool → List ℕ
time_shown None times = []
time_shown (Some nanos) times = if times then 32 ∷ [] ++ printed_seconds nanos else []

-- the line of a test: this id, and its time where it is asked for and the test has one
abbrev pub listed_line : List ℕ → Option ℕ → Bool → List ℕ
listed_line id nanos times = id ++ time_shown nanos times ++ newline

-- the line of a row: its id, and its time where it is asked for
abbrev pub ls_line_of : Row → Bool → List ℕ
ls_line_of row times = listed_line row.id row.nanos times

-- the number with blanks before it, so that it fills five places
abbrev pub in_five_places : ℕ → List ℕ
in_five_places number = replicate (5 - length (decimal number)) 32 ++ decimal number

-- a count behind its label
abbrev pub count_line : List ℕ → ℕ → List ℕ
count_line label number = label ++ in_five_places number ++ newline

-- The labels are so wide that the numbers stand below one another.
unfoldable pub counts_lines : Counts → List ℕ
counts_lines counts =
    count_line (codes "Total tests:   ") counts.total
    ++ count_line (codes "Passed tests:  ") counts.passed
    ++ count_line (codes "Failed tests:  ") counts.failed
    ++ count_line (codes "Skipped tests: ") counts.skipped

-- a tag behind another one
abbrev pub tag_behind : List ℕ → List ℕ
tag_behind tag = codes ", " ++ tag

-- with a comma and a space between them
abbrev pub tags_joined : List (List ℕ) → List ℕ
tags_joined [] = []
tags_joined (tag ∷ tags) = tag ++ flat_map tag_behind tags

-- the line with the tags that were seen
unfoldable pub tags_line : List (List ℕ) → List ℕ
tags_line tags = codes "Seen tags: " ++ tags_joined tags ++ newline

-- the lines of these counts, and the line of these tags
abbrev pub stats_lines : Counts → List (List ℕ) → List ℕ
stats_lines counts tags = counts_lines counts ++ tags_line tags

-- the statistics of some rows
abbrev pub stats_of : List Row → List ℕ
stats_of rows = stats_lines (counts_of [] rows) (seen_tags_of rows)
