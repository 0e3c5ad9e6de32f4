-- Which tests were asked for and did not run, and what is told of them (docs/COMMANDS.md, "Tests that did not run").
use Rattle.std.specs.Prelude.{ℕ, ◌-◌, Bool, not, nat_eq, nat_le, List, [], ◌∷◌, ◌++◌, length, take, codes, if◌then◌else◌}
use Rattle.std.specs.Fmt.{decimal}
use Rattle.std.specs.List.{filter, flat_map}
use Rattle.outcome_fold.specs.Answers.{ids_of, is_run}
use Rattle.outcome_fold.specs.Order.{in_byte_order, without}
use Rattle.outcome_fold.specs.declared.row.Row.{Row}
use Rattle.missing_tests.specs.declared.missing_report.TheConstants.{MOST_NAMED}

-- ---- which

-- the ids of the rows of tests that ran
abbrev pub ids_that_ran : List Row → List (List ℕ)
ids_that_ran rows = ids_of (filter is_run rows)

-- of the ids that were asked for those of which no row tells that the test ran, in the order of their bytes, each once
abbrev pub missing_ids : (asked : List (List ℕ)) → List Row → List (List ℕ)
missing_ids asked rows = in_byte_order (without asked (ids_that_ran rows))

-- at least one of the ids that were asked for is missing
abbrev pub some_missing : (asked : List (List ℕ)) → List Row → Bool
some_missing asked rows = not (nat_eq (length (missing_ids asked rows)) 0)

-- ---- what is told of them

-- the line of how many ids are missing, of so many that were asked for
abbrev pub missing_count_line : (missing all : ℕ) → List ℕ
missing_count_line missing all = codes "testr: " ++ decimal missing ++ codes " of " ++ decimal all ++ codes " tests that were asked for did not run\n"

-- the line of one missing id, behind two spaces
abbrev pub missing_id_line : List ℕ → List ℕ
missing_id_line id = codes "  " ++ id ++ 10 ∷ []

-- the line of how many more ids are missing than are named
abbrev pub more_line : ℕ → List ℕ
more_line more = codes "  and " ++ decimal more ++ codes " more\n"

-- a line for each, or for the first ten, and for how many more there are
abbrev pub named_lines : List (List ℕ) → List ℕ
named_lines missing = if nat_le (length missing) MOST_NAMED then flat_map missing_id_line missing else flat_map missing_id_line (take MOST_NAMED missing) ++ more_line (length missing - MOST_NAMED)

-- how many these are of so many, and their names; nothing where there are none
abbrev pub missing_lines : (missing : List (List ℕ)) → (all : ℕ) → List ℕ
missing_lines missing all = if nat_eq (length missing) 0 then [] else missing_count_line (length missing) all ++ named_lines missing

-- what is told where these ids were asked for, and a run has these rows
abbrev pub missing_text : (asked : List (List ℕ)) → List Row → List ℕ
missing_text asked rows = missing_lines (missing_ids asked rows) (length (in_byte_order asked))
