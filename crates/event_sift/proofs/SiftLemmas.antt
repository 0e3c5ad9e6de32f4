-- What is released, event by event and at the end.
use Rattle.std.proofs.Common.{◌≡◌, ℕ, Bool, true, false, cond, List, [], ◌∷◌, ◌++◌, Option, Some, None, map, refl, sym, ◌∙◌, ap, append_assoc}
use Rattle.std.specs.FinMap as fin
use Rattle.std.specs.List.{flat_map}
use Rattle.std.specs.List.Sorted.{IsStrictlySortedBy}
use Rattle.std.specs.Option.{option_map}
use Rattle.packet_codec.specs.declared.event.Event.{Event}
use Rattle.outcome_fold.specs.declared.row.Ended.{Ended}
use Rattle.outcome_fold.specs.declared.row.Ended.TheVariants as ended
use Rattle.outcome_fold.specs.declared.row.Row.{Row}
use Rattle.outcome_fold.specs.declared.test_key.TestKey.{TestKey}
use Rattle.outcome_fold.specs.Order.{test_cmp, table}
use Rattle.outcome_fold.specs.Parts.{test_of, ended_by, instant, start_of, elapsed}
use Rattle.outcome_fold.specs.Rows.{open_tests, part_with, row_of, row_completing}
use Rattle.outcome_fold.proofs.OrderLemmas.{tests_total, exact_tests}
use Rattle.outcome_fold.proofs.TableLemmas.{entries_in_order}
use Rattle.outcome_fold.proofs.CloseLemmas.{table_with}
use Rattle.outcome_fold.proofs.FoldLemmas.{append_none}
use Rattle.event_sift.specs.Released.{if_kept, completed_part_row, released, released_with, released_behind, released_by, released_at_end, parts_at_end, part_at, kept_open}
use Rattle.event_sift.specs.Sifted.{open_part_events}

-- At an event.

pub at_no_test : (kept : Row → Bool) (seen : List Event) (e : Event) (events : List Event) → None ≡ test_of e → events ≡ e ∷ [] → events ≡ released kept seen e
at_no_test kept seen e events none is = is ∙ (λ i. released_with kept (none i) (row_completing (none i) (ended_by e.status) seen e) seen e)

pub at_going_on : (kept : Row → Bool) (seen : List Event) (e : Event) (t : TestKey) (events : List Event) → Some t ≡ test_of e → None ≡ ended_by e.status → events ≡ [] → events ≡ released kept seen e
at_going_on kept seen e t events test none is = is ∙ (λ i. released_with kept (test i) (row_completing (test i) (none i) seen e) seen e)

pub at_completing : (kept : Row → Bool) (seen : List Event) (e : Event) (t : TestKey) (how : Ended) (events : List Event) → Some t ≡ test_of e → Some how ≡ ended_by e.status → events ≡ if_kept kept (completed_part_row t how seen e) (part_with t seen e) → events ≡ released kept seen e
at_completing kept seen e t how events test some is = is ∙ (λ i. released_with kept (test i) (row_completing (test i) (some i) seen e) seen e)

-- the part that is held, with the event that completes it
pub part_completed : (kept : Row → Bool) (seen : List Event) (e : Event) (t : TestKey) (how : Ended) (part : List Event) (end : Option ℕ) (events : List Event) → part ≡ part_with t seen e → end ≡ option_map instant e.stamp → events ≡ if_kept kept (row_of t how (elapsed (start_of part) end) part) part → events ≡ if_kept kept (completed_part_row t how seen e) (part_with t seen e)
part_completed kept seen e t how part end events same at is = is ∙ (λ i. if_kept kept (row_of t how (elapsed (start_of (same i)) (at i)) (same i)) (same i))

-- the row of a part
pub row_same : (t : TestKey) (how : Ended) (part : List Event) (end start nanos : Option ℕ) (first second : List Event) (row : Row) → first ≡ part → start ≡ start_of first → nanos ≡ elapsed start end → second ≡ part → row ≡ row_of t how nanos second → row ≡ row_of t how (elapsed (start_of part) end) part
row_same t how part end start nanos first second row one begins took two is =
    is ∙ (λ i. row_of t how ((took ∙ ap (λ s. elapsed s end) (begins ∙ ap start_of one)) i) (two i))

-- what a part gives whose row is kept, and one whose row is not
pub is_kept : (kept : Row → Bool) (row other : Row) (part events : List Event) → row ≡ other → kept row ≡ true → events ≡ part → events ≡ if_kept kept other part
is_kept kept row other part events same so is = is ∙ ap (λ b. cond b part []) (sym so ∙ ap kept same)

pub is_not_kept : (kept : Row → Bool) (row other : Row) (part events : List Event) → row ≡ other → kept row ≡ false → events ≡ [] → events ≡ if_kept kept other part
is_not_kept kept row other part events same so is = is ∙ ap (λ b. cond b part []) (sym so ∙ ap kept same)

-- At the end.

-- without an end there is no time
pub no_end : (start : Option ℕ) → elapsed start None ≡ None
no_end None = refl
no_end (Some start) = refl

-- what an entry of what is held gives
abbrev pub kept_entry : (Row → Bool) → TestKey × List Event → List Event
kept_entry kept entry = if_kept kept (row_of entry.0 ended.Open None entry.1) entry.1

flat_map_map : {A B C : Type 0} (f : B → List C) (g : A → B) (xs : List A) → flat_map f (map g xs) ≡ flat_map (λ x. f (g x)) xs
flat_map_map f g [] = refl
flat_map_map f g (x ∷ xs) = ap (λ l. f (g x) ++ l) (flat_map_map f g xs)

pub at_end : (kept : Row → Bool) (seen : List Event) (es : List (TestKey × List Event)) → IsStrictlySortedBy test_cmp (map (λ e. e.0) es) → fin.from_entries {R = test_cmp} es ≡ open_part_events seen → flat_map (kept_entry kept) es ≡ released_at_end kept seen
at_end kept seen es ordered is =
    let entries : List (TestKey × List Event) = fin.entries (table {R = test_cmp} (kept_open kept seen) (open_tests seen)) in
    ap (flat_map (kept_entry kept)) (sym (entries_in_order tests_total es ordered) ∙ ap fin.entries is)
    ∙ sym (flat_map_map (λ (e : TestKey × List Event). e.1) (λ (e : TestKey × List Event). (e.0, kept_entry kept e)) (fin.entries (open_part_events seen)))
    ∙ sym (ap (flat_map (λ (e : TestKey × List Event). e.1)) (table_with exact_tests (λ test part. kept_entry kept (test, part)) tests_total (part_at seen) (open_tests seen)))
    ∙ sym (flat_map_map (λ (part : List Event). part) (λ (e : TestKey × List Event). e.1) entries)

map_map : {A B C : Type 0} (f : B → C) (g : A → B) (xs : List A) → map f (map g xs) ≡ map (λ x. f (g x)) xs
map_map f g [] = refl
map_map f g (x ∷ xs) = ap (λ l. f (g x) ∷ l) (map_map f g xs)

pub parts_end : (kept : Row → Bool) (seen : List Event) (es : List (TestKey × List Event)) → IsStrictlySortedBy test_cmp (map (λ e. e.0) es) → fin.from_entries {R = test_cmp} es ≡ open_part_events seen → map (kept_entry kept) es ≡ parts_at_end kept seen
parts_end kept seen es ordered is =
    ap (map (kept_entry kept)) (sym (entries_in_order tests_total es ordered) ∙ ap fin.entries is)
    ∙ sym (map_map (λ (e : TestKey × List Event). e.1) (λ (e : TestKey × List Event). (e.0, kept_entry kept e)) (fin.entries (open_part_events seen)))
    ∙ sym (ap (map (λ (e : TestKey × List Event). e.1)) (table_with exact_tests (λ test part. kept_entry kept (test, part)) tests_total (part_at seen) (open_tests seen)))

-- what an open test's part gives
pub open_gives : (kept : Row → Bool) (t : TestKey) (part gives : List Event) → gives ≡ if_kept kept (row_of t ended.Open (elapsed (start_of part) None) part) part → gives ≡ kept_entry kept (t, part)
open_gives kept t part gives is = is ∙ ap (λ nanos. if_kept kept (row_of t ended.Open nanos part) part) (no_end (start_of part))

-- the entry that is taken from what is left, and what it gives
pub entry_next : (kept : Row → Bool) (events gives next : List Event) (t : TestKey) (part : List Event) (left rest all : List (TestKey × List Event)) → left ≡ (t, part) ∷ rest → events ++ flat_map (kept_entry kept) left ≡ flat_map (kept_entry kept) all → gives ≡ if_kept kept (row_of t ended.Open (elapsed (start_of part) None) part) part → next ≡ events ++ gives → next ++ flat_map (kept_entry kept) rest ≡ flat_map (kept_entry kept) all
entry_next kept events gives next t part left rest all takes before gave is =
    ap (λ l. l ++ flat_map (kept_entry kept) rest) (is ∙ ap (λ l. events ++ l) (open_gives kept t part gives gave))
    ∙ append_assoc events (kept_entry kept (t, part)) (flat_map (kept_entry kept) rest)
    ∙ ap (λ l. events ++ flat_map (kept_entry kept) l) (sym takes) ∙ before

-- Of a whole list.

behind_push : (kept : Row → Bool) (seen es : List Event) (e : Event) → released_behind kept seen (es ++ e ∷ []) ≡ released_behind kept seen es ++ released kept (seen ++ es) e
behind_push kept seen [] e = append_none (released kept seen e) ∙ ap (λ s. released kept s e) (sym (append_none seen))
behind_push kept seen (x ∷ es) e =
    ap (λ l. released kept seen x ++ l) (behind_push kept (seen ++ x ∷ []) es e ∙ ap (λ s. released_behind kept (seen ++ x ∷ []) es ++ released kept s e) (append_assoc seen (x ∷ []) es))
    ∙ sym (append_assoc (released kept seen x) (released_behind kept (seen ++ x ∷ []) es) (released kept (seen ++ x ∷ es) e))

-- what is released at an event is the last
pub released_push : (kept : Row → Bool) (seen : List Event) (e : Event) → released_by kept (seen ++ e ∷ []) ≡ released_by kept seen ++ released kept seen e
released_push kept seen e = behind_push kept [] seen e
