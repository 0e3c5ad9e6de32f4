-- Why tests were skipped, and how many for each reason (docs/COMMANDS.md, `last`).
use Rattle.std.specs.Prelude.{◌≡◌, ℕ, ◌+◌, List, [], ◌∷◌, ◌++◌, map, codes, if◌then◌else◌}
use Rattle.std.specs.Fmt.{decimal}
use Rattle.std.specs.List.{filter, flat_map, fold}
use Rattle.std.specs.List.Sorted.{IsPermutation, IsSorted}
use Rattle.std.specs.Ordering.{nat_cmp, ordering_then}
use Rattle.std.specs.Str.{bytes_eq}
use Rattle.std.specs.declared.cmp.Ordering.{Ordering}
use Rattle.outcome_fold.specs.Answers.{is_skipped}
use Rattle.outcome_fold.specs.Order.{text_cmp}
use Rattle.outcome_fold.specs.declared.row.Row.{Row}

-- a reason, and how many tests were skipped for it
pub record Tally : Type 0 where
  pub reason : List ℕ
  pub tests : ℕ

-- the reason of each row that was skipped
abbrev pub reasons_of : List Row → List (List ℕ)
reasons_of rows = map (λ row. row.reason) (filter is_skipped rows)

-- the tally of this reason and so many tests
abbrev pub tally : (reason : List ℕ) (tests : ℕ) → Tally
tally reason tests = record { reason = reason; tests = tests }

-- one test of this reason
abbrev pub once : List ℕ → Tally
once reason = tally reason 1

-- this tally and the reason behind it; or one test more of it, where the reason is its own
abbrev pub more_of : Tally → List ℕ → List Tally
more_of last reason = if bytes_eq last.reason reason then tally last.reason (last.tests + 1) ∷ [] else last ∷ once reason ∷ []

-- the tallies with a test more of this reason, which is that of the last tally, or of none
abbrev pub tallies_with : List Tally → List ℕ → List Tally
tallies_with [] reason = once reason ∷ []
tallies_with (last ∷ []) reason = more_of last reason
tallies_with (first ∷ next ∷ tallies) reason = first ∷ tallies_with (next ∷ tallies) reason

-- the tallies of reasons in which equal ones stand side by side
abbrev pub tallies_of : List (List ℕ) → List Tally
tallies_of reasons = fold tallies_with [] reasons

-- the most frequent first, of equal ones by the reasons' bytes
abbrev pub frequency_cmp : Tally → Tally → Ordering
frequency_cmp s t = ordering_then (nat_cmp t.tests s.tests) (text_cmp s.reason t.reason)

-- the line of a reason
abbrev pub skip_line : Tally → List ℕ
skip_line t = codes "SKIP " ++ decimal t.tests ++ codes ": " ++ t.reason ++ 10 ∷ []

-- The text tells, of each reason for which rows were skipped, how many were: it is made of the reasons in the order of their
-- bytes, equal ones counted, and of the tallies in their order.
pub record TellsSkips (rows : List Row) (text : List ℕ) : Type 0 where
  pub reasons : List (List ℕ)
  pub same_reasons : IsPermutation (reasons_of rows) reasons
  pub reasons_in_order : IsSorted text_cmp reasons
  pub tallies : List Tally
  pub same_tallies : IsPermutation (tallies_of reasons) tallies
  pub tallies_in_order : IsSorted frequency_cmp tallies
  pub text_is : text ≡ flat_map skip_line tallies
