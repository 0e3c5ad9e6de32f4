-- What one event does to the table of open tests, and the row that it completes.
use Rattle.std.proofs.Common.{◌≡◌, ℕ, Bool, true, false, cond, List, [], ◌∷◌, ◌++◌, Option, Some, None, take, is_some, refl, sym, ◌∙◌, ap, append_assoc}
use Rattle.std.specs.FinMap as fin
use Rattle.std.specs.FinMap.{same_map, get-insert, get-remove}
use Rattle.std.specs.Ordering.{eq_by_cmp}
use Rattle.std.specs.Option.{option_map, unwrap_or}
use Rattle.std.specs.List.{list_any, flat_map}
use Rattle.packet_codec.specs.declared.event.Event.{Event}
use Rattle.outcome_fold.specs.declared.row.Ended.{Ended}
use Rattle.outcome_fold.specs.declared.test_key.TestKey.{TestKey}
use Rattle.outcome_fold.specs.declared.part.Started.{Started}
use Rattle.outcome_fold.specs.Order.{test_cmp}
use Rattle.outcome_fold.specs.Parts.{test_of, speaks_of, events_of_test, ended_by, has_end_status, last_part, instant, elapsed, last_tags, text_in, reason_in, reason_limit}
use Rattle.outcome_fold.specs.Files.{name_in, with_piece}
use Rattle.outcome_fold.specs.Rows.{completed_row, row_completing}
use Rattle.outcome_fold.specs.Started.{started_of, open_table}
use Rattle.outcome_fold.specs.Folded.{extended, row_at}
use Rattle.outcome_fold.proofs.OrderLemmas.{tests_total, exact_tests}
use Rattle.outcome_fold.proofs.TableLemmas.{tied_is, any_push}
pub use Rattle.outcome_fold.proofs.TextLemmas.{take_again}
use Rattle.outcome_fold.proofs.FileLemmas.{files_none, files_push}
use Rattle.outcome_fold.proofs.FoldLemmas.{filter_push, append_none, last_part_ends, last_part_goes, part_of_test, said_of_part, get-open_table}

pub flat_map_push : (f : Event → List ℕ) (es : List Event) (e : Event) → flat_map f (es ++ e ∷ []) ≡ flat_map f es ++ f e
flat_map_push f [] e = append_none (f e)
flat_map_push f (x ∷ es) e = ap (λ l. f x ++ l) (flat_map_push f es e) ∙ sym (append_assoc (f x) (flat_map f es) (f e))

pub last_tags_at : (tags : Option (List (List ℕ))) (es : List Event) (e : Event) → e.tags ≡ tags → last_tags (es ++ e ∷ []) ≡ unwrap_or tags (last_tags es)
last_tags_at tags [] e is = ap (λ t. unwrap_or t []) is
last_tags_at None (x ∷ es) e is =
    ap (λ b. cond b (last_tags (es ++ e ∷ [])) (unwrap_or x.tags [])) (any_push (λ e. is_some e.tags) es e ∙ ap (λ t. cond (is_some t) true (list_any (λ e. is_some e.tags) es)) is)
    ∙ ap (λ l. cond (list_any (λ e. is_some e.tags) es) l (unwrap_or x.tags [])) (last_tags_at None es e is)
last_tags_at (Some tags) (x ∷ es) e is =
    ap (λ b. cond b (last_tags (es ++ e ∷ [])) (unwrap_or x.tags [])) (any_push (λ e. is_some e.tags) es e ∙ ap (λ t. cond (is_some t) true (list_any (λ e. is_some e.tags) es)) is)
    ∙ last_tags_at (Some tags) es e is

-- a part with one event more
pub started_push : (part : List Event) (e : Event) → started_of (part ++ e ∷ []) ≡ extended (said_of_part part) e
started_push [] e =
    let tags = last_tags_at e.tags [] e refl in
    let files = files_push [] e ∙ ap (λ files. with_piece files (name_in e.file) (text_in e.mime e.file)) files_none in
    let reason : take reason_limit (reason_in e.file ++ []) ≡ take reason_limit (reason_in e.file) = ap (take reason_limit) (append_none (reason_in e.file)) in
    λ i. record { start = option_map instant e.stamp; tags = tags i; files = files i; reason = reason i }
started_push (x ∷ es) e =
    let tags = last_tags_at e.tags (x ∷ es) e refl in
    let files = files_push (x ∷ es) e in
    let told = λ (e : Event). reason_in e.file in
    let reason : take reason_limit (flat_map told (x ∷ es ++ e ∷ [])) ≡ take reason_limit (take reason_limit (flat_map told (x ∷ es)) ++ told e) =
    ap (take reason_limit) (flat_map_push told (x ∷ es) e) ∙ sym (take_again reason_limit (flat_map told (x ∷ es)) (told e)) in
    λ i. record { start = option_map instant x.stamp; tags = tags i; files = files i; reason = reason i }

said_push : (part : List Event) (e : Event) → said_of_part (part ++ e ∷ []) ≡ Some (extended (said_of_part part) e)
said_push [] e = ap Some (started_push [] e)
said_push (x ∷ es) e = ap Some (started_push (x ∷ es) e)

pub part_other : (seen : List Event) (e : Event) (q : TestKey) → speaks_of q (test_of e) ≡ false → part_of_test (seen ++ e ∷ []) q ≡ part_of_test seen q
part_other seen e q other = ap last_part (filter_push (λ e. speaks_of q (test_of e)) seen e ∙ ap (λ b. events_of_test q seen ++ cond b (e ∷ []) []) other ∙ append_none (events_of_test q seen))

pub part_of_its : (seen : List Event) (e : Event) (q : TestKey) → speaks_of q (test_of e) ≡ true → part_of_test (seen ++ e ∷ []) q ≡ last_part (events_of_test q seen ++ e ∷ [])
part_of_its seen e q its = ap last_part (filter_push (λ e. speaks_of q (test_of e)) seen e ∙ ap (λ b. events_of_test q seen ++ cond b (e ∷ []) []) its)

-- an event without an id changes nothing
pub stays : (seen : List Event) (e : Event) → test_of e ≡ None → open_table (seen ++ e ∷ []) ≡ open_table seen
stays seen e none = same_map tests_total exact_tests _ _ (λ q.
    get-open_table (seen ++ e ∷ []) q ∙ ap said_of_part (part_other seen e q (ap (speaks_of q) none)) ∙ sym (get-open_table seen q))

goes_at : (seen : List Event) (e : Event) (t q : TestKey) (b : Bool) → eq_by_cmp test_cmp q t ≡ b → speaks_of q (test_of e) ≡ b → has_end_status e ≡ false → said_of_part (part_of_test (seen ++ e ∷ []) q) ≡ cond b (Some (extended (said_of_part (part_of_test seen t)) e)) (said_of_part (part_of_test seen q))
goes_at seen e t q true tie its goes =
    ap said_of_part (part_of_its seen e q its ∙ last_part_goes (events_of_test q seen) e goes) ∙ said_push (part_of_test seen q) e
    ∙ ap (λ k. Some (extended (said_of_part (part_of_test seen k)) e)) (tied_is exact_tests q t tie)
goes_at seen e t q false tie its goes = ap said_of_part (part_other seen e q its)

-- an event that completes nothing is one more of its test's part
pub goes : (seen : List Event) (e : Event) (t : TestKey) → test_of e ≡ Some t → ended_by e.status ≡ None → open_table (seen ++ e ∷ []) ≡ fin.insert (open_table seen) t (extended (fin.get (open_table seen) t) e)
goes seen e t is none = same_map tests_total exact_tests _ _ (λ q.
    get-open_table (seen ++ e ∷ []) q
    ∙ goes_at seen e t q (eq_by_cmp test_cmp q t) refl (ap (speaks_of q) is) (ap is_some none)
    ∙ ap (λ s. cond (eq_by_cmp test_cmp q t) (Some (extended s e)) (said_of_part (part_of_test seen q))) (sym (get-open_table seen t))
    ∙ ap (cond (eq_by_cmp test_cmp q t) (Some (extended (fin.get (open_table seen) t) e))) (sym (get-open_table seen q))
    ∙ sym (get-insert tests_total (open_table seen) t _ q))

ends_at : (seen : List Event) (e : Event) (t q : TestKey) (b : Bool) → eq_by_cmp test_cmp q t ≡ b → speaks_of q (test_of e) ≡ b → has_end_status e ≡ true → said_of_part (part_of_test (seen ++ e ∷ []) q) ≡ cond b None (said_of_part (part_of_test seen q))
ends_at seen e t q true tie its ends = ap said_of_part (part_of_its seen e q its ∙ last_part_ends (events_of_test q seen) e ends)
ends_at seen e t q false tie its ends = ap said_of_part (part_other seen e q its)

-- an event that completes its test's part leaves the test closed
pub ends : (seen : List Event) (e : Event) (t : TestKey) (how : Ended) → test_of e ≡ Some t → ended_by e.status ≡ Some how → open_table (seen ++ e ∷ []) ≡ fin.remove (open_table seen) t
ends seen e t how is some = same_map tests_total exact_tests _ _ (λ q.
    get-open_table (seen ++ e ∷ []) q
    ∙ ends_at seen e t q (eq_by_cmp test_cmp q t) refl (ap (speaks_of q) is) (ap is_some some)
    ∙ ap (cond (eq_by_cmp test_cmp q t) None) (sym (get-open_table seen q))
    ∙ sym (get-remove tests_total (open_table seen) t q))

-- and gives its row
pub gives : (seen : List Event) (e : Event) (t : TestKey) (how : Ended) → test_of e ≡ Some t → ended_by e.status ≡ Some how → completed_row seen e ≡ Some (row_at t how (elapsed (extended (fin.get (open_table seen) t) e).start (option_map instant e.stamp)) (extended (fin.get (open_table seen) t) e))
gives seen e t how is some =
    (λ i. row_completing (is i) (some i) seen e)
    ∙ ap (λ (s : Started). Some (row_at t how (elapsed s.start (option_map instant e.stamp)) s)) (started_push (part_of_test seen t) e ∙ ap (λ s. extended s e) (sym (get-open_table seen t)))

pub gives_none : (seen : List Event) (e : Event) (t : TestKey) → test_of e ≡ Some t → ended_by e.status ≡ None → completed_row seen e ≡ None
gives_none seen e t is none i = row_completing (is i) (none i) seen e

pub gives_nothing : (seen : List Event) (e : Event) → test_of e ≡ None → completed_row seen e ≡ None
gives_nothing seen e is i = row_completing (is i) (ended_by e.status) seen e
