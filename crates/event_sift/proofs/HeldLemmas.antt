-- The events of the open tests, event by event.
use Rattle.std.proofs.Common.{◌≡◌, Bool, true, false, cond, List, [], ◌∷◌, ◌++◌, Option, Some, None, is_some, refl, sym, ◌∙◌, ap}
use Rattle.std.specs.BTreeMap.{is_at}
use Rattle.std.specs.Map.{lookup}
use Rattle.std.specs.FinMap as fin
use Rattle.std.specs.FinMap.{FinMap, same_map, get-insert, get-remove}
use Rattle.std.specs.Ordering.{eq_by_cmp}
use Rattle.std.specs.Option.{unwrap_or}
use Rattle.packet_codec.specs.declared.event.Event.{Event}
use Rattle.outcome_fold.specs.declared.row.Ended.{Ended}
use Rattle.outcome_fold.specs.declared.test_key.TestKey.{TestKey}
use Rattle.outcome_fold.specs.Order.{test_cmp}
use Rattle.outcome_fold.specs.Parts.{test_of, speaks_of, events_of_test, ended_by, has_end_status}
use Rattle.outcome_fold.specs.Rows.{has_events, open_tests, part_with}
use Rattle.outcome_fold.proofs.OrderLemmas.{tests_total, exact_tests}
use Rattle.outcome_fold.proofs.TableLemmas.{tied_is, get-table, inserted, lookup_in_map}
use Rattle.outcome_fold.proofs.FoldLemmas.{last_part_ends, last_part_goes, among_open}
use Rattle.outcome_fold.proofs.StepLemmas.{part_other, part_of_its}
use Rattle.event_sift.specs.Released.{part_at}
use Rattle.event_sift.specs.Sifted.{open_part_events}

abbrev pub Parts : Type 0
Parts = FinMap test_cmp (List Event)

-- events that are written through to the part that was found
pub pushed_through : (old new : List (TestKey × List Event)) (t : TestKey) (part grown : List Event) (e : Event) → ((q : TestKey) → lookup (is_at (test_cmp q)) new ≡ cond (is_at (test_cmp t) q) (Some grown) (lookup (is_at (test_cmp q)) old)) → Some part ≡ lookup (is_at (test_cmp t)) old → grown ≡ part ++ e ∷ []
    → fin.from_entries {R = test_cmp} new ≡ fin.insert (fin.from_entries {R = test_cmp} old) t (unwrap_or (fin.get (fin.from_entries {R = test_cmp} old) t) [] ++ e ∷ [])
pushed_through old new t part grown e updates found is =
    inserted tests_total exact_tests old new t grown updates
    ∙ ap (fin.insert (fin.from_entries {R = test_cmp} old) t) (is ∙ ap (λ events. unwrap_or events [] ++ e ∷ []) (found ∙ lookup_in_map tests_total t old))

-- What is held of each test.

-- a part, where it has an event
abbrev held_of : List Event → Option (List Event)
held_of part = cond (has_events part) (Some part) None

pub get-open_parts : (seen : List Event) (q : TestKey) → fin.get (open_part_events seen) q ≡ held_of (part_at seen q)
get-open_parts seen q = get-table tests_total exact_tests _ (open_tests seen) q ∙ ap (λ b. cond b (Some (part_at seen q)) None) (among_open seen q)

or_none : (part : List Event) → unwrap_or (held_of part) [] ≡ part
or_none [] = refl
or_none (e ∷ es) = refl

-- what is held of a test is its last part
pub part_is : (seen : List Event) (t : TestKey) → unwrap_or (fin.get (open_part_events seen) t) [] ≡ part_at seen t
part_is seen t = ap (λ part. unwrap_or part []) (get-open_parts seen t) ∙ or_none (part_at seen t)

held_push : (part : List Event) (e : Event) → held_of (part ++ e ∷ []) ≡ Some (part ++ e ∷ [])
held_push [] e = refl
held_push (x ∷ es) e = refl

-- an event without an id changes nothing
pub stays : (seen : List Event) (e : Event) (held : Parts) → held ≡ open_part_events seen → None ≡ test_of e → held ≡ open_part_events (seen ++ e ∷ [])
stays seen e held is none = is ∙ sym (same_map tests_total exact_tests _ _ (λ q.
    get-open_parts (seen ++ e ∷ []) q ∙ ap held_of (part_other seen e q (ap (speaks_of q) (sym none))) ∙ sym (get-open_parts seen q)))

goes_at : (seen : List Event) (e : Event) (t q : TestKey) (b : Bool) → eq_by_cmp test_cmp q t ≡ b → speaks_of q (test_of e) ≡ b → has_end_status e ≡ false → held_of (part_at (seen ++ e ∷ []) q) ≡ cond b (Some (part_at seen t ++ e ∷ [])) (held_of (part_at seen q))
goes_at seen e t q true tie its goes =
    ap held_of (part_of_its seen e q its ∙ last_part_goes (events_of_test q seen) e goes) ∙ held_push (part_at seen q) e
    ∙ ap (λ k. Some (part_at seen k ++ e ∷ [])) (tied_is exact_tests q t tie)
goes_at seen e t q false tie its goes = ap held_of (part_other seen e q its)

goes : (seen : List Event) (e : Event) (t : TestKey) → test_of e ≡ Some t → ended_by e.status ≡ None → open_part_events (seen ++ e ∷ []) ≡ fin.insert (open_part_events seen) t (part_at seen t ++ e ∷ [])
goes seen e t is none = same_map tests_total exact_tests _ _ (λ q.
    get-open_parts (seen ++ e ∷ []) q
    ∙ goes_at seen e t q (eq_by_cmp test_cmp q t) refl (ap (speaks_of q) is) (ap is_some none)
    ∙ ap (cond (eq_by_cmp test_cmp q t) (Some (part_at seen t ++ e ∷ []))) (sym (get-open_parts seen q))
    ∙ sym (get-insert tests_total (open_part_events seen) t _ q))

-- an event that completes nothing is one more of its test's part
pub goes_on : (seen : List Event) (e : Event) (held next : Parts) (t : TestKey) → held ≡ open_part_events seen → Some t ≡ test_of e → None ≡ ended_by e.status → next ≡ fin.insert held t (unwrap_or (fin.get held t) [] ++ e ∷ []) → next ≡ open_part_events (seen ++ e ∷ [])
goes_on seen e held next t is test none put =
    put ∙ ap (λ (m : Parts). fin.insert m t (unwrap_or (fin.get m t) [] ++ e ∷ [])) is
    ∙ ap (λ part. fin.insert (open_part_events seen) t (part ++ e ∷ [])) (part_is seen t) ∙ sym (goes seen e t (sym test) (sym none))

ends_at : (seen : List Event) (e : Event) (t q : TestKey) (b : Bool) → eq_by_cmp test_cmp q t ≡ b → speaks_of q (test_of e) ≡ b → has_end_status e ≡ true → held_of (part_at (seen ++ e ∷ []) q) ≡ cond b None (held_of (part_at seen q))
ends_at seen e t q true tie its ends = ap held_of (part_of_its seen e q its ∙ last_part_ends (events_of_test q seen) e ends)
ends_at seen e t q false tie its ends = ap held_of (part_other seen e q its)

-- an event that completes its test's part leaves nothing of it
pub ends : (seen : List Event) (e : Event) (held next : Parts) (t : TestKey) (how : Ended) → held ≡ open_part_events seen → Some t ≡ test_of e → Some how ≡ ended_by e.status → next ≡ fin.remove held t → next ≡ open_part_events (seen ++ e ∷ [])
ends seen e held next t how is test some gone = gone ∙ ap (λ (m : Parts). fin.remove m t) is ∙ sym (same_map tests_total exact_tests _ _ (λ q.
    get-open_parts (seen ++ e ∷ []) q
    ∙ ends_at seen e t q (eq_by_cmp test_cmp q t) refl (ap (speaks_of q) (sym test)) (ap is_some (sym some))
    ∙ ap (cond (eq_by_cmp test_cmp q t) None) (sym (get-open_parts seen q))
    ∙ sym (get-remove tests_total (open_part_events seen) t q)))

-- the part that is taken out, with the event that completes it
pub completed_is : (seen : List Event) (e : Event) (held : Parts) (t : TestKey) (part : List Event) → held ≡ open_part_events seen → part ≡ unwrap_or (fin.get held t) [] ++ e ∷ [] → part ≡ part_with t seen e
completed_is seen e held t part is taken = taken ∙ ap (λ (m : Parts). unwrap_or (fin.get m t) [] ++ e ∷ []) is ∙ ap (λ part. part ++ e ∷ []) (part_is seen t)
