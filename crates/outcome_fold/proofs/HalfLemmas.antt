-- Rows where an event stands in two halves.
use Rattle.std.proofs.Common.{◌≡◌, ℕ, ◌/◌, Bool, true, false, cond, List, [], ◌∷◌, ◌++◌, Option, Some, None, length, take, refl, sym, ◌∙◌, ap, append_assoc}
use Rattle.std.specs.FinMap as fin
use Rattle.std.specs.FinMap.{FinMap, same_map, get-insert}
use Rattle.std.specs.Cmp.{eq_by_cmp_equiv}
use Rattle.std.specs.Ordering.{eq_by_cmp}
use Rattle.std.specs.Prelude.{codes}
use Rattle.std.specs.Str.{bytes_eq}
use Rattle.std.specs.Option.{option_map, option_to_list, unwrap_or}
use Rattle.std.proofs.lemmas.List.{take-append-drop}
use Rattle.packet_codec.specs.declared.event.FilePart.{FilePart}
use Rattle.packet_codec.specs.declared.event.Event.{Event}
use Rattle.packet_codec.specs.Halves.{half_of, other_half_of, with_part, first_half, second_half}
use Rattle.outcome_fold.specs.declared.row.Ended.{Ended}
use Rattle.outcome_fold.specs.declared.row.Ended.TheVariants as how
use Rattle.outcome_fold.specs.declared.row.Row.{Row}
use Rattle.outcome_fold.specs.declared.test_key.TestKey.{TestKey}
use Rattle.outcome_fold.specs.declared.part.Started.{Started}
use Rattle.outcome_fold.specs.Order.{test_cmp, table}
use Rattle.outcome_fold.specs.Parts.{test_of, events_of_test, ended_by, instant, elapsed, is_text_type, text_in, reason_in, reason_limit, last_part}
use Rattle.outcome_fold.specs.Files.{name_in, with_piece}
use Rattle.outcome_fold.specs.Rows.{row_of, completed_row, completed_behind, has_events, open_tests, open_rows, by_route, rows_of}
use Rattle.outcome_fold.specs.Started.{after, fresh, open_table}
use Rattle.outcome_fold.specs.Folded.{extended, row_at}
use Rattle.outcome_fold.specs.Routes.{SaySame}
use Rattle.outcome_fold.proofs.OrderLemmas.{tests_total, exact_tests}
use Rattle.outcome_fold.proofs.TableLemmas.{get-table}
use Rattle.outcome_fold.proofs.FoldLemmas.{append_none, among_open, part_of_test, said_of_part, get-open_table}
use Rattle.outcome_fold.proofs.OpenLemmas.{remove_insert}
use Rattle.outcome_fold.proofs.RouteLemmas.{same_says}
use Rattle.outcome_fold.proofs.FileLemmas.{piece_twice}
use Rattle.outcome_fold.proofs.StepLemmas.{take_again, stays, goes, ends, gives, gives_none, gives_nothing}

abbrev Open : Type 0
Open = FinMap test_cmp Started

-- ---- rows depend on what is kept of the open tests alone

-- the row that an event completes where the open tests are these
abbrev row_by : Option TestKey → Option Ended → Event → Open → Option Row
row_by None how e kept = None
row_by (Some t) None e kept = None
row_by (Some t) (Some how) e kept =
    let s = extended (fin.get kept t) e in
    Some (row_at t how (elapsed s.start (option_map instant e.stamp)) s)

row_is_by : (seen : List Event) (e : Event) (test : Option TestKey) (ended : Option Ended) → test_of e ≡ test → ended_by e.status ≡ ended → completed_row seen e ≡ row_by test ended e (open_table seen)
row_is_by seen e None ended is how = gives_nothing seen e is
row_is_by seen e (Some t) None is how = gives_none seen e t is how
row_is_by seen e (Some t) (Some ended) is how = gives seen e t ended is how

abbrev table_by : Option TestKey → Option Ended → Event → Open → Open
table_by None how e kept = kept
table_by (Some t) None e kept = fin.insert kept t (extended (fin.get kept t) e)
table_by (Some t) (Some how) e kept = fin.remove kept t

table_is_by : (seen : List Event) (e : Event) (test : Option TestKey) (ended : Option Ended) → test_of e ≡ test → ended_by e.status ≡ ended → open_table (seen ++ e ∷ []) ≡ table_by test ended e (open_table seen)
table_is_by seen e None ended is how = stays seen e is
table_is_by seen e (Some t) None is how = goes seen e t is how
table_is_by seen e (Some t) (Some ended) is how = ends seen e t ended is how

same_row : (seen others : List Event) (e : Event) → open_table seen ≡ open_table others → completed_row seen e ≡ completed_row others e
same_row seen others e same =
    row_is_by seen e (test_of e) (ended_by e.status) refl refl
    ∙ ap (row_by (test_of e) (ended_by e.status) e) same
    ∙ sym (row_is_by others e (test_of e) (ended_by e.status) refl refl)

same_table : (seen others : List Event) (e : Event) → open_table seen ≡ open_table others → open_table (seen ++ e ∷ []) ≡ open_table (others ++ e ∷ [])
same_table seen others e same =
    table_is_by seen e (test_of e) (ended_by e.status) refl refl
    ∙ ap (table_by (test_of e) (ended_by e.status) e) same
    ∙ sym (table_is_by others e (test_of e) (ended_by e.status) refl refl)

same_behind : (seen others es : List Event) → open_table seen ≡ open_table others → completed_behind seen es ≡ completed_behind others es
same_behind seen others [] same = refl
same_behind seen others (e ∷ es) same =
    let row = same_row seen others e same in
    let more = same_behind (seen ++ e ∷ []) (others ++ e ∷ []) es (same_table seen others e same) in
    λ i. option_to_list (row i) ++ more i

tables_behind : (seen others es : List Event) → open_table seen ≡ open_table others → open_table (seen ++ es) ≡ open_table (others ++ es)
tables_behind seen others [] same = ap open_table (append_none seen) ∙ same ∙ sym (ap open_table (append_none others))
tables_behind seen others (e ∷ es) same =
    ap open_table (sym (append_assoc seen (e ∷ []) es))
    ∙ tables_behind (seen ++ e ∷ []) (others ++ e ∷ []) es (same_table seen others e same)
    ∙ ap open_table (append_assoc others (e ∷ []) es)

-- the row of a test that is open
abbrev open_by : TestKey → Option Started → Option Row
open_by test s = option_map (row_at test how.Open None) s

open_of : (test : TestKey) (part : List Event) → cond (has_events part) (Some (row_of test how.Open None part)) None ≡ open_by test (said_of_part part)
open_of test [] = refl
open_of test (e ∷ es) = refl

get-open : (seen : List Event) (test : TestKey) → fin.get (table {R = test_cmp} (λ test. row_of test how.Open None (last_part (events_of_test test seen))) (open_tests seen)) test ≡ open_by test (fin.get (open_table seen) test)
get-open seen test =
    get-table tests_total exact_tests (λ test. row_of test how.Open None (last_part (events_of_test test seen))) (open_tests seen) test
    ∙ ap (λ b. cond b (Some (row_of test how.Open None (part_of_test seen test))) None) (among_open seen test)
    ∙ open_of test (part_of_test seen test)
    ∙ ap (open_by test) (sym (get-open_table seen test))

same_open : (seen others : List Event) → open_table seen ≡ open_table others → open_rows seen ≡ open_rows others
same_open seen others same = ap fin.values (same_map tests_total exact_tests _ _ (λ test. get-open seen test ∙ ap (λ (kept : Open). open_by test (fin.get kept test)) same ∙ sym (get-open others test)))

-- ---- the two halves, one after the other

text_halves : (text : Bool) (bytes : List ℕ) → cond text (half_of bytes) [] ++ cond text (other_half_of bytes) [] ≡ cond text bytes []
text_halves true bytes = take-append-drop (length bytes / 2) bytes
text_halves false bytes = refl

text_joined : (mime : Option (List ℕ)) (file : Option FilePart) → text_in mime (option_map (with_part half_of) file) ++ text_in mime (option_map (with_part other_half_of) file) ≡ text_in mime file
text_joined None file = refl
text_joined (Some mime) None = refl
text_joined (Some mime) (Some file) = text_halves (is_text_type mime) file.bytes

half_name : (half : List ℕ → List ℕ) (file : Option FilePart) → name_in (option_map (with_part half) file) ≡ name_in file
half_name half None = refl
half_name half (Some file) = refl

reason_joined : (file : Option FilePart) → reason_in (option_map (with_part half_of) file) ++ reason_in (option_map (with_part other_half_of) file) ≡ reason_in file
reason_joined None = refl
reason_joined (Some file) = text_halves (bytes_eq file.name (codes "reason")) file.bytes

after_both : (s : Started) (e : Event) → after (after s (first_half e)) (second_half e) ≡ after s e
after_both s e =
    let first = text_in e.mime (option_map (with_part half_of) e.file) in
    let second = text_in e.mime (option_map (with_part other_half_of) e.file) in
    let files : with_piece (with_piece s.files (name_in (option_map (with_part half_of) e.file)) first) (name_in (option_map (with_part other_half_of) e.file)) second ≡ with_piece s.files (name_in e.file) (text_in e.mime e.file) =
    (λ i. with_piece (with_piece s.files (half_name half_of e.file i) first) (half_name other_half_of e.file i) second)
    ∙ piece_twice s.files (name_in e.file) first second ∙ ap (with_piece s.files (name_in e.file)) (text_joined e.mime e.file) in
    let front = reason_in (option_map (with_part half_of) e.file) in
    let behind = reason_in (option_map (with_part other_half_of) e.file) in
    let reason : take reason_limit (take reason_limit (s.reason ++ front) ++ behind) ≡ take reason_limit (s.reason ++ reason_in e.file) =
    take_again reason_limit (s.reason ++ front) behind
    ∙ ap (take reason_limit) (append_assoc s.reason front behind ∙ ap (λ (l : List ℕ). s.reason ++ l) (reason_joined e.file)) in
    λ i. record { start = s.start; tags = unwrap_or e.tags s.tags; files = files i; reason = reason i }

extended_both : (o : Option Started) (e : Event) → extended (Some (extended o (first_half e))) (second_half e) ≡ extended o e
extended_both None e = after_both (fresh e) e
extended_both (Some s) e = after_both s e

-- what is put at a test's place is found there
put_found : (kept : Open) (t : TestKey) (s : Started) → fin.get (fin.insert kept t s) t ≡ Some s
put_found kept t s = get-insert tests_total kept t s t ∙ ap (λ b. cond b (Some s) (fin.get kept t)) ((eq_by_cmp_equiv tests_total).refl t)

twice : (b : Bool) (x y : Started) (o : Option Started) → cond b (Some y) (cond b (Some x) o) ≡ cond b (Some y) o
twice true x y o = refl
twice false x y o = refl

put_twice : (kept : Open) (t : TestKey) (x y : Started) → fin.insert (fin.insert kept t x) t y ≡ fin.insert kept t y
put_twice kept t x y = same_map tests_total exact_tests _ _ (λ q.
    get-insert tests_total (fin.insert kept t x) t y q
    ∙ ap (cond (eq_by_cmp test_cmp q t) (Some y)) (get-insert tests_total kept t x q)
    ∙ twice (eq_by_cmp test_cmp q t) x y (fin.get kept q)
    ∙ sym (get-insert tests_total kept t y q))

found_extended : (kept : Open) (t : TestKey) (e : Event) → extended (fin.get (fin.insert kept t (extended (fin.get kept t) (first_half e))) t) (second_half e) ≡ extended (fin.get kept t) e
found_extended kept t e =
    ap (λ (o : Option Started). extended o (second_half e)) (put_found kept t (extended (fin.get kept t) (first_half e)))
    ∙ extended_both (fin.get kept t) e

both_tables : (test : Option TestKey) (ended : Option Ended) (e : Event) (kept : Open) → table_by test ended (second_half e) (table_by test None (first_half e) kept) ≡ table_by test ended e kept
both_tables None ended e kept = refl
both_tables (Some t) None e kept =
    put_twice kept t (extended (fin.get kept t) (first_half e)) _
    ∙ ap (fin.insert kept t) (found_extended kept t e)
both_tables (Some t) (Some ended) e kept = remove_insert kept t (extended (fin.get kept t) (first_half e))

both_rows : (test : Option TestKey) (ended : Option Ended) (e : Event) (kept : Open) → row_by test ended (second_half e) (table_by test None (first_half e) kept) ≡ row_by test ended e kept
both_rows None ended e kept = refl
both_rows (Some t) None e kept = refl
both_rows (Some t) (Some ended) e kept =
    ap (λ (s : Started). Some (row_at t ended (elapsed s.start (option_map instant e.stamp)) s)) (found_extended kept t e)

first_table : (seen : List Event) (e : Event) → open_table (seen ++ first_half e ∷ []) ≡ table_by (test_of e) None (first_half e) (open_table seen)
first_table seen e = table_is_by seen (first_half e) (test_of e) None refl refl

halves_table : (seen : List Event) (e : Event) → open_table ((seen ++ first_half e ∷ []) ++ second_half e ∷ []) ≡ open_table (seen ++ e ∷ [])
halves_table seen e =
    table_is_by (seen ++ first_half e ∷ []) (second_half e) (test_of e) (ended_by e.status) refl refl
    ∙ ap (table_by (test_of e) (ended_by e.status) (second_half e)) (first_table seen e)
    ∙ both_tables (test_of e) (ended_by e.status) e (open_table seen)
    ∙ sym (table_is_by seen e (test_of e) (ended_by e.status) refl refl)

no_first_row : (seen : List Event) (e : Event) (test : Option TestKey) → test_of e ≡ test → completed_row seen (first_half e) ≡ None
no_first_row seen e None is = gives_nothing seen (first_half e) is
no_first_row seen e (Some t) is = gives_none seen (first_half e) t is refl

second_row : (seen : List Event) (e : Event) → completed_row (seen ++ first_half e ∷ []) (second_half e) ≡ completed_row seen e
second_row seen e =
    row_is_by (seen ++ first_half e ∷ []) (second_half e) (test_of e) (ended_by e.status) refl refl
    ∙ ap (row_by (test_of e) (ended_by e.status) (second_half e)) (first_table seen e)
    ∙ both_rows (test_of e) (ended_by e.status) e (open_table seen)
    ∙ sym (row_is_by seen e (test_of e) (ended_by e.status) refl refl)

halves_behind : (seen behind : List Event) (e : Event) → completed_behind seen (first_half e ∷ second_half e ∷ behind) ≡ completed_behind seen (e ∷ behind)
halves_behind seen behind e =
    let first = no_first_row seen e (test_of e) refl in
    let second = second_row seen e in
    let more = same_behind ((seen ++ first_half e ∷ []) ++ second_half e ∷ []) (seen ++ e ∷ []) behind (halves_table seen e) in
    λ i. option_to_list (first i) ++ (option_to_list (second i) ++ more i)

-- ---- wherever the event stands

halves_completed : (seen front behind : List Event) (e : Event) → completed_behind seen (front ++ first_half e ∷ second_half e ∷ behind) ≡ completed_behind seen (front ++ e ∷ behind)
halves_completed seen [] behind e = halves_behind seen behind e
halves_completed seen (f ∷ front) behind e = ap (λ (rows : List Row). option_to_list (completed_row seen f) ++ rows) (halves_completed (seen ++ f ∷ []) front behind e)

halves_tables : (front behind : List Event) (e : Event) → open_table (front ++ first_half e ∷ second_half e ∷ behind) ≡ open_table (front ++ e ∷ behind)
halves_tables front behind e =
    ap open_table (sym (append_assoc front (first_half e ∷ []) (second_half e ∷ behind)) ∙ sym (append_assoc (front ++ first_half e ∷ []) (second_half e ∷ []) behind))
    ∙ tables_behind ((front ++ first_half e ∷ []) ++ second_half e ∷ []) (front ++ e ∷ []) behind (halves_table front e)
    ∙ ap open_table (append_assoc front (e ∷ []) behind)

halves_rows : (front behind : List Event) (e : Event) → rows_of (front ++ first_half e ∷ second_half e ∷ behind) ≡ rows_of (front ++ e ∷ behind)
halves_rows front behind e =
    let done = halves_completed [] front behind e in
    let left = same_open (front ++ first_half e ∷ second_half e ∷ behind) (front ++ e ∷ behind) (halves_tables front behind e) in
    λ i. by_route (done i ++ left i)

pub halves_say_same : (front behind : List Event) (e : Event) → SaySame (front ++ first_half e ∷ second_half e ∷ behind) (front ++ e ∷ behind)
halves_say_same front behind e = same_says _ _ (halves_rows front behind e)
