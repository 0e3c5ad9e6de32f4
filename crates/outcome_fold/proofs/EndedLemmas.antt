-- The part that an event completes, and what it says.
use Rattle.std.proofs.Common.{◌≡◌, ℕ, true, false, cond, Option, Some, None, List, [], sym, ap, ◌∙◌, refl, true≢false}
use Rattle.std.specs.FinMap as fin
use Rattle.std.specs.Option.{option_map}
use Rattle.packet_codec.specs.declared.event.Event.{Event}
use Rattle.outcome_fold.specs.declared.row.Ended.{Ended}
use Rattle.outcome_fold.specs.declared.test_key.TestKey.{TestKey}
use Rattle.outcome_fold.specs.declared.part.Started.{Started}
use Rattle.outcome_fold.specs.declared.part.EndedPart.{EndedPart}
use Rattle.outcome_fold.specs.Order.{test_cmp}
use Rattle.outcome_fold.specs.Parts.{test_of, text_in, ended_by, instant, events_of_test, last_part}
use Rattle.outcome_fold.specs.Rows.{part_with, row_completing, completed_row}
use Rattle.outcome_fold.specs.Started.{started_of, open_table}
use Rattle.outcome_fold.specs.Files.{name_in, text_shown, with_piece}
use Rattle.outcome_fold.specs.Folded.{extended, files_in, is_failing_end, gives_failure}
use Rattle.outcome_fold.specs.EndedParts.{part_completing, completed_part, row_of_part, text_told}
use Rattle.outcome_fold.specs.declared.row.Row.{Row}
use Rattle.outcome_fold.proofs.FoldLemmas.{get-open_table}
use Rattle.outcome_fold.proofs.StepLemmas.{started_push}

started_is : (seen : List Event) (e : Event) (t : TestKey) → extended (fin.get (open_table seen) t) e ≡ started_of (part_with t seen e)
started_is seen e t = ap (λ (o : Option Started). extended o e) (get-open_table seen t) ∙ sym (started_push (last_part (events_of_test t seen)) e)

pub is_part : (seen : List Event) (e : Event) (kept : fin.FinMap test_cmp Started) (t : TestKey) (how : Ended) (s : Started) (end : Option ℕ) → kept ≡ open_table seen → Some t ≡ test_of e → Some how ≡ ended_by e.status → s ≡ extended (fin.get kept t) e → end ≡ option_map instant e.stamp
    → ◌≡◌ {A = Option EndedPart} (Some (record { key = t; ended = how; started = s; end = end })) (completed_part seen e)
is_part seen e kept t how s end has test ended says at =
    let started : s ≡ started_of (part_with t seen e) = says ∙ ap (λ (k : fin.FinMap test_cmp Started). extended (fin.get k t) e) has ∙ started_is seen e t in
    (λ i. Some (record { key = t; ended = how; started = started i; end = at i })) ∙ (λ i. part_completing (test i) (ended i) seen e)

pub no_part : (seen : List Event) (e : Event) → None ≡ test_of e → ◌≡◌ {A = Option EndedPart} None (completed_part seen e)
no_part seen e test = λ i. part_completing (test i) (ended_by e.status) seen e

pub no_end : (seen : List Event) (e : Event) (t : TestKey) → Some t ≡ test_of e → None ≡ ended_by e.status → ◌≡◌ {A = Option EndedPart} None (completed_part seen e)
no_end seen e t test ended = λ i. part_completing (test i) (ended i) seen e

row_completed : (test : Option TestKey) (how : Option Ended) (seen : List Event) (e : Event) → option_map row_of_part (part_completing test how seen e) ≡ row_completing test how seen e
row_completed None how seen e = refl
row_completed (Some test) None seen e = refl
row_completed (Some test) (Some how) seen e = refl

-- the row of the part that the event completes is the row that it completes
pub row_is : (seen : List Event) (e : Event) (part : Option EndedPart) (row : Option Row) → part ≡ completed_part seen e → row ≡ option_map row_of_part part → row ≡ completed_row seen e
row_is seen e part row gives is = is ∙ ap (option_map row_of_part) gives ∙ row_completed (test_of e) (ended_by e.status) seen e

-- the files of a part with one event more
more_files : (o : Option Started) (e : Event) → (extended o e).files ≡ with_piece (files_in o) (name_in e.file) (text_in e.mime e.file)
more_files None e = refl
more_files (Some s) e = refl

failure_at : (how : Option Ended) (seen : List Event) (e : Event) (t : TestKey) (text : List ℕ) → is_failing_end how ≡ true → text ≡ text_shown (started_of (part_with t seen e)).files → text ≡ text_told (part_completing (Some t) how seen e)
failure_at None seen e t text fails is = absurd (true≢false (sym fails))
failure_at (Some how) seen e t text fails is = is ∙ sym (ap (λ b. cond b (text_shown (started_of (part_with t seen e)).files) []) fails)

-- the text of the row that an event gives, which fails
pub text_gives : (seen : List Event) (e : Event) (kept : fin.FinMap test_cmp Started) (t : TestKey) (text : List ℕ) → kept ≡ open_table seen → Some t ≡ test_of e → gives_failure e.status ≡ true
    → text ≡ text_shown (with_piece (files_in (fin.get kept t)) (name_in e.file) (text_in e.mime e.file)) → text ≡ text_told (completed_part seen e)
text_gives seen e kept t text has test fails is =
    failure_at (ended_by e.status) seen e t text fails
    (is ∙ ap (λ (k : fin.FinMap test_cmp Started). text_shown (with_piece (files_in (fin.get k t)) (name_in e.file) (text_in e.mime e.file))) has
    ∙ ap text_shown (sym (more_files (fin.get (open_table seen) t) e)) ∙ ap (λ (s : Started). text_shown s.files) (started_is seen e t))
    ∙ (λ i. text_told (part_completing (test i) (ended_by e.status) seen e))

no_failure_at : (test : Option TestKey) (how : Option Ended) (seen : List Event) (e : Event) → is_failing_end how ≡ false → [] ≡ text_told (part_completing test how seen e)
no_failure_at None how seen e passes = refl
no_failure_at (Some t) None seen e passes = refl
no_failure_at (Some t) (Some how) seen e passes = sym (ap (λ b. cond b (text_shown (started_of (part_with t seen e)).files) []) passes)

-- there is none where the event gives no row that fails
pub gives_no_text : (seen : List Event) (e : Event) (text : List ℕ) → text ≡ [] → gives_failure e.status ≡ false → text ≡ text_told (completed_part seen e)
gives_no_text seen e text none passes = none ∙ no_failure_at (test_of e) (ended_by e.status) seen e passes

pub no_test_no_text : (seen : List Event) (e : Event) (text : List ℕ) → text ≡ [] → None ≡ test_of e → text ≡ text_told (completed_part seen e)
no_test_no_text seen e text none test = none ∙ ap text_told (no_part seen e test)
