-- What is kept of rows, in place of the rows.
use Rattle.std.proofs.Common.{◌≡◌, ◌<◌, ℕ, true, false, Bool, List, [], ◌∷◌, length, Result, Err, refl, sym, ap, subst, ◌∙◌, arith}
use Rattle.std.specs.Prelude.{IsErrAnd, ◌||◌, if◌then◌else◌}
use Rattle.std.specs.List.{filter, flat_map, list_any}
use Rattle.std.proofs.lemmas.Result.{err_from_is_err_and}
use Rattle.build_notes.specs.Notes.{note_of, failure_notes}
use Rattle.outcome_fold.specs.Answers.{row_fails}
use Rattle.outcome_fold.specs.declared.row.Row.{Row}
use Rattle.outcome_fold.specs.declared.summary.Summary.{Summary}
use Rattle.suite_run.specs.Summed.{GivesSums}
use Rattle.command_steps.specs.Verdicts.{verdict_of}
use Rattle.command_steps.specs.declared.answer.Verdict.TheVariants.{Passed, Failed}

-- an exit by `?`, of which nothing is kept
pub gives_fault : {E : Type 0} {filter_tags : List (List ℕ)} {Holds : Result (List Row) E → Type 0} (result : Result Summary E) (fault : E) → IsErrAnd result (λ given. given ≡ fault) → Holds (Err fault) → GivesSums filter_tags Holds result
gives_fault {filter_tags = filter_tags} {Holds = Holds} result fault is holds =
    let p = err_from_is_err_and result is in
    subst (GivesSums filter_tags Holds) (sym (p.1 ∙ ap Err p.2)) (record { rows = []; sums = tt; holds = holds })

abbrev is_some_row : List Row → Bool
is_some_row [] = false
is_some_row (row ∷ rows) = true

any_kept : (rows : List Row) → list_any row_fails rows ≡ is_some_row (filter row_fails rows)
any_kept [] = refl
any_kept (row ∷ rows) = by (row_fails row) (any_kept rows)
  where
    by : (fails : Bool) → list_any row_fails rows ≡ is_some_row (filter row_fails rows) → (fails || list_any row_fails rows) ≡ is_some_row (if fails then row ∷ filter row_fails rows else filter row_fails rows)
    by true rest = refl
    by false rest = rest

-- by the rows that fail, where these are kept
verdict_by : (rows kept : List Row) → kept ≡ filter row_fails rows → (if is_some_row kept then Failed else Passed) ≡ verdict_of rows
verdict_by rows kept is = ap (λ (fails : Bool). if fails then Failed else Passed) (ap is_some_row is ∙ sym (any_kept rows))

pub none_fails : (rows kept : List Row) → kept ≡ filter row_fails rows → length kept ≡ 0 → Passed ≡ verdict_of rows
none_fails rows [] is none = verdict_by rows [] is
none_fails rows (row ∷ kept) is none = absurd (omega (arith, none))

pub some_fails : (rows kept : List Row) → kept ≡ filter row_fails rows → 0 < length kept → Failed ≡ verdict_of rows
some_fails rows [] is some = absurd (omega (arith, some))
some_fails rows (row ∷ kept) is some = verdict_by rows (row ∷ kept) is

-- the notes of the rows that fail are those of all rows
failing_again : (rows : List Row) → filter row_fails (filter row_fails rows) ≡ filter row_fails rows
failing_again [] = refl
failing_again (row ∷ rows) = by (row_fails row) refl (failing_again rows)
  where
    by : (fails : Bool) → row_fails row ≡ fails → filter row_fails (filter row_fails rows) ≡ filter row_fails rows → filter row_fails (if fails then row ∷ filter row_fails rows else filter row_fails rows) ≡ (if fails then row ∷ filter row_fails rows else filter row_fails rows)
    by true is rest = ap (λ (b : Bool). if b then row ∷ filter row_fails (filter row_fails rows) else filter row_fails (filter row_fails rows)) is ∙ ap (λ (l : List Row). row ∷ l) rest
    by false is rest = rest

pub notes_kept : (rows kept : List Row) → kept ≡ filter row_fails rows → failure_notes kept ≡ failure_notes rows
notes_kept rows kept is = ap failure_notes is ∙ ap (flat_map note_of) (failing_again rows)
