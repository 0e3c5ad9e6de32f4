-- What is written of a stream, and of the same stream as events alone.
use Rattle.std.proofs.Common.{◌≡◌, ℕ, cond, List, [], ◌∷◌, ◌++◌, Option, Some, None, map, refl, sym, ap, ◌∙◌, append_assoc, append-nil}
use Rattle.std.specs.FinMap as fin
use Rattle.std.specs.List.{cons_option, filter, filter_map, flat_map}
use Rattle.std.specs.Option.{option_map, option_to_list}
use Rattle.std.proofs.lemmas.List.Elements.{filter-append}
use Rattle.packet_codec.specs.declared.event.Event.{Event}
use Rattle.stream_reader.specs.declared.note.Note.{Note}
use Rattle.stream_reader.specs.declared.note.Note.TheVariants as note
use Rattle.stream_reader.specs.Notes.{event_of, stdout_event}
use Rattle.outcome_fold.specs.declared.row.Ended.{Ended}
use Rattle.outcome_fold.specs.declared.row.Ended.TheVariants as ended
use Rattle.outcome_fold.specs.declared.row.Row.{Row}
use Rattle.outcome_fold.specs.declared.test_key.TestKey.{TestKey}
use Rattle.outcome_fold.specs.Order.{test_cmp, table}
use Rattle.outcome_fold.specs.Parts.{test_of, speaks_of, events_of_test, last_part, ended_by, start_of, elapsed, instant}
use Rattle.outcome_fold.specs.Rows.{row_of, has_events, row_completing, completed_row, completed_behind, completed_rows, open_rows, by_route, rows_of}
use Rattle.outcome_fold.specs.Answers.{status_of}
use Rattle.sub_text.specs.Listed.{stats_of}
use Rattle.filter_cli.specs.Events.{events_among, passed_on, loose_bytes, as_events}
use Rattle.filter_cli.specs.Script.{given_behind, given_by}
use Rattle.filter_cli.specs.declared.ls.Listing.{Listing}
use Rattle.filter_cli.specs.declared.stats.Counting.{Counting}
use Rattle.filter_cli.specs.Ls.{shown_line, ls_plan}
use Rattle.filter_cli.specs.Stats.{passed_at, stats_plan}
use Rattle.filter_cli.proofs.EventLemmas.{event_more, foreign_more}

-- ---- lists with the same events of each test

abbrev Same : List Event → List Event → Type 0
Same es fs = (test : TestKey) → events_of_test test es ≡ events_of_test test fs

same_more : (es fs : List Event) (e : Event) → Same es fs → Same (es ++ e ∷ []) (fs ++ e ∷ [])
same_more es fs e same test =
    let mine = λ (e : Event). speaks_of test (test_of e) in
    filter-append mine es (e ∷ []) ∙ ap (λ (l : List Event). l ++ filter mine (e ∷ [])) (same test) ∙ sym (filter-append mine fs (e ∷ []))

same_output : (es fs : List Event) (bytes : List ℕ) → Same es fs → Same (es ++ stdout_event bytes ∷ []) fs
same_output es fs bytes same test =
    let mine = λ (e : Event). speaks_of test (test_of e) in
    filter-append mine es (stdout_event bytes ∷ []) ∙ append-nil (events_of_test test es) ∙ same test

completing_as : (es fs : List Event) → Same es fs → (test : Option TestKey) (how : Option Ended) (e : Event) → row_completing test how es e ≡ row_completing test how fs e
completing_as es fs same None how e = refl
completing_as es fs same (Some test) None e = refl
completing_as es fs same (Some test) (Some how) e =
    ap (λ (l : List Event). Some (row_of test how (elapsed (start_of (last_part l ++ e ∷ [])) (option_map instant e.stamp)) (last_part l ++ e ∷ []))) (same test)

-- ---- the rows of a stream

completed_as : (es fs : List Event) → Same es fs → (notes : List Note) → completed_behind es (events_among (as_events notes)) ≡ completed_behind fs (events_among notes)
completed_as es fs same [] = refl
completed_as es fs same (note.Foreign bytes ∷ notes) = completed_as (es ++ stdout_event bytes ∷ []) fs (same_output es fs bytes same) notes
completed_as es fs same (note.Event e ∷ notes) =
    ap (λ (r : Option Row). option_to_list r ++ completed_behind (es ++ e ∷ []) (events_among (as_events notes))) (completing_as es fs same (test_of e) (ended_by e.status) e)
    ∙ ap (λ (l : List Row). option_to_list (completed_row fs e) ++ l) (completed_as (es ++ e ∷ []) (fs ++ e ∷ []) (same_more es fs e same) notes)

open_as : (es fs : List Event) → Same es fs → filter_map test_of es ≡ filter_map test_of fs → open_rows es ≡ open_rows fs
open_as es fs same tests = λ i. fin.values (table {R = test_cmp} (λ test. row_of test ended.Open None (last_part (same test i))) (filter (λ test. has_events (last_part (same test i))) (tests i)))

stored_same : (notes : List Note) → Same (events_among (as_events notes)) (events_among notes)
stored_same [] test = refl
stored_same (note.Foreign bytes ∷ notes) test = stored_same notes test
stored_same (note.Event e ∷ notes) test = ap (λ (l : List Event). cond (speaks_of test (test_of e)) (e ∷ l) l) (stored_same notes test)

stored_tests : (notes : List Note) → filter_map test_of (events_among (as_events notes)) ≡ filter_map test_of (events_among notes)
stored_tests [] = refl
stored_tests (note.Foreign bytes ∷ notes) = stored_tests notes
stored_tests (note.Event e ∷ notes) = ap (cons_option (test_of e)) (stored_tests notes)

no_events : Same [] []
no_events test = refl

open_stored : (notes : List Note) → open_rows (events_among (as_events notes)) ≡ open_rows (events_among notes)
open_stored notes = open_as (events_among (as_events notes)) (events_among notes) (stored_same notes) (stored_tests notes)

all_stored : (notes : List Note) → completed_rows (events_among (as_events notes)) ++ open_rows (events_among (as_events notes)) ≡ completed_rows (events_among notes) ++ open_rows (events_among notes)
all_stored notes = λ i. completed_as [] [] no_events notes i ++ open_stored notes i

-- ---- what is written

listed_as : (listing : Listing) (before stored : List Note) → Same (events_among stored) (events_among before) → (notes : List Note) → given_behind (ls_plan listing) stored (as_events notes) ≡ given_behind (ls_plan listing) before notes
listed_as listing before stored same [] = refl
listed_as listing before stored same (note.Foreign bytes ∷ notes) =
    let shown = passed_on listing.hidden bytes in
    let event = stdout_event bytes in
    let more : Same (events_among (stored ++ note.Event event ∷ [])) (events_among (before ++ note.Foreign bytes ∷ [])) = λ test.
    ap (events_of_test test) (event_more stored event) ∙ same_output (events_among stored) (events_among before) bytes same test ∙ sym (ap (events_of_test test) (foreign_more before bytes)) in
    ap (λ (l : List ℕ). l ++ given_behind (ls_plan listing) (stored ++ note.Event event ∷ []) (as_events notes)) (append-nil shown)
    ∙ ap (λ (l : List ℕ). shown ++ l) (listed_as listing (before ++ note.Foreign bytes ∷ []) (stored ++ note.Event event ∷ []) more notes)
listed_as listing before stored same (note.Event e ∷ notes) =
    let shown = passed_on listing.hidden (loose_bytes e) in
    let lines = λ (r : Option Row). flat_map (shown_line listing) (option_to_list r) in
    let more : Same (events_among (stored ++ note.Event e ∷ [])) (events_among (before ++ note.Event e ∷ [])) = λ test.
    ap (events_of_test test) (event_more stored e) ∙ same_more (events_among stored) (events_among before) e same test ∙ sym (ap (events_of_test test) (event_more before e)) in
    ap (λ (r : Option Row). (shown ++ lines r) ++ given_behind (ls_plan listing) (stored ++ note.Event e ∷ []) (as_events notes)) (completing_as (events_among stored) (events_among before) same (test_of e) (ended_by e.status) e)
    ∙ ap (λ (l : List ℕ). (shown ++ lines (completed_row (events_among before) e)) ++ l) (listed_as listing (before ++ note.Event e ∷ []) (stored ++ note.Event e ∷ []) more notes)

pub listed_stored : (listing : Listing) (notes : List Note) → given_by (ls_plan listing) (as_events notes) ++ (ls_plan listing).at_end (as_events notes) ≡ given_by (ls_plan listing) notes ++ (ls_plan listing).at_end notes
listed_stored listing notes = λ i. listed_as listing [] [] no_events notes i ++ flat_map (shown_line listing) (open_stored notes i)

pub listed_status : (listing : Listing) (notes : List Note) → (ls_plan listing).status (as_events notes) ≡ (ls_plan listing).status notes
listed_status listing notes = ap status_of (all_stored notes)

counted_as : (counting : Counting) (before stored notes : List Note) → given_behind (stats_plan counting) stored (as_events notes) ≡ given_behind (stats_plan counting) before notes
counted_as counting before stored [] = refl
counted_as counting before stored (note.Foreign bytes ∷ notes) =
    ap (λ (l : List ℕ). passed_on counting.hidden bytes ++ l) (counted_as counting (before ++ note.Foreign bytes ∷ []) (stored ++ note.Event (stdout_event bytes) ∷ []) notes)
counted_as counting before stored (note.Event e ∷ notes) =
    ap (λ (l : List ℕ). passed_on counting.hidden (loose_bytes e) ++ l) (counted_as counting (before ++ note.Event e ∷ []) (stored ++ note.Event e ∷ []) notes)

pub counted_stored : (counting : Counting) (notes : List Note) → given_by (stats_plan counting) (as_events notes) ++ (stats_plan counting).at_end (as_events notes) ≡ given_by (stats_plan counting) notes ++ (stats_plan counting).at_end notes
counted_stored counting notes = λ i. counted_as counting [] [] notes i ++ stats_of (by_route (all_stored notes i))

pub counted_status : (counting : Counting) (notes : List Note) → (stats_plan counting).status (as_events notes) ≡ (stats_plan counting).status notes
counted_status counting notes = ap (λ (rows : List Row). status_of (by_route rows)) (all_stored notes)
