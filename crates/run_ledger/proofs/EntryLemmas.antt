-- The times that entries hold, told by their bytes.
use Rattle.std.proofs.Common.{◌≡◌, ◌≢◌, ℕ, ◌<◌, ◌^◌, Bool, true, false, ◌==◌, cond, List, [], ◌∷◌, ◌++◌, Option, Some, None, IfSome, length, map-id, refl, sym, ap, ◌∙◌, subst, append_assoc, arith}
use Rattle.std.specs.Bool.{MatchBool}
use Rattle.std.specs.Fmt.{decimal}
use Rattle.std.specs.Iterator.{Drains}
use Rattle.std.specs.List.{All, flat_map, splice}
use Rattle.std.specs.List.Sorted.{IsStrictlySortedBy}
use Rattle.std.specs.FinMap as fin
use Rattle.std.specs.FinMap.{FinMap, entries_sorted, same_entries_map}
use Rattle.std.specs.Vec.Iter.{into_iter_items, into_iter_len, into_iter_steps}
use Rattle.std.specs.declared.cmp.Ordering.TheVariants.{Less}
use Rattle.std.specs.declared.vec.IntoIter.{IntoIter}
use Rattle.std.proofs.lemmas.Bool.{ne_eqb}
use Rattle.std.proofs.lemmas.Fmt.{decimal_is_IsNumeral}
use Rattle.std.proofs.lemmas.Iterator.{items_from_drains}
use Rattle.std.proofs.lemmas.Iterator.Adapters.{YieldsList-from_vec}
use Rattle.std.proofs.lemmas.List.Elements.{All-nil, All-head, All-tail}
use Rattle.sub_number.specs.Texts.{IsShortText}
use Rattle.sub_number.specs.Lines.{with_newline}
use Rattle.outcome_fold.specs.Order.{text_cmp}
use Rattle.outcome_fold.proofs.OrderLemmas.{texts_total}
use Rattle.outcome_fold.proofs.TableLemmas.{entries_in_order}
use Rattle.run_shelf.specs.IdFiles.{heading, Lacks}
use Rattle.run_shelf.specs.Bases.{onto_first, zero_ended_pieces}
use Rattle.run_ledger.specs.Caches.{time_entry, times_title, IsTimed, IsTimesCache}
use Rattle.run_ledger.specs.Cuts.{BeginsWithTime, AreTimeEntries, HasTimed}
use Rattle.run_ledger.specs.Merging.{in_pairs, times_in}
use Rattle.run_ledger.proofs.FormLemmas.{decimal_digits, no_zero, not_empty, empty_by}
use Rattle.run_ledger.proofs.TimedLemmas.{one_time, keys_sorted, nothing_timed, next_is, more_timed, all_timed, not_timed}

pieces_cut : (xs rest : List ℕ) → Lacks 0 xs → zero_ended_pieces (xs ++ 0 ∷ rest) ≡ xs ∷ zero_ended_pieces rest
pieces_cut [] rest lacks = refl
pieces_cut (x ∷ xs) rest lacks =
    ap (λ b. cond b ([] ∷ zero_ended_pieces (xs ++ 0 ∷ rest)) (onto_first x (zero_ended_pieces (xs ++ 0 ∷ rest)))) (ne_eqb x 0 (All-head (λ b. b ≢ 0) x xs lacks))
    ∙ ap (onto_first x) (pieces_cut xs rest (All-tail (λ b. b ≢ 0) x xs lacks))

pairs_are : (es : List (List ℕ × ℕ)) → All IsTimed es → in_pairs (zero_ended_pieces (flat_map time_entry es)) ≡ es
pairs_are [] each = refl
pairs_are (e ∷ es) each =
    let timed : IsTimed e = All-head IsTimed e es each in
    ap (λ l. in_pairs (zero_ended_pieces l)) (one_time e.0 e.1 (flat_map time_entry es))
    ∙ ap in_pairs (pieces_cut e.0 (decimal e.1 ++ 0 ∷ flat_map time_entry es) (no_zero e.0 timed.text) ∙ ap (λ l. e.0 ∷ l) (pieces_cut (decimal e.1) (flat_map time_entry es) (decimal_digits 0 e.1 (omega arith) timed.time)))
    ∙ (λ i. (e.0, (decimal_is_IsNumeral e.1 timed.time).1 i) ∷ pairs_are es (All-tail IsTimed e es each) i)

pub from_own : (times : FinMap text_cmp ℕ) → fin.from_entries (fin.entries times) ≡ times
from_own times = same_entries_map _ _ (entries_in_order texts_total (fin.entries times) (keys_sorted (fin.entries times) (entries_sorted times)))

-- the bytes tell the times
pub times_are : (bytes : List ℕ) (times : FinMap text_cmp ℕ) → AreTimeEntries bytes times → times_in bytes ≡ times
unfolding times_in
times_are bytes times are = ap (λ l. fin.from_entries (in_pairs (zero_ended_pieces l))) are.is ∙ ap fin.from_entries (pairs_are (fin.entries times) are.each) ∙ from_own times

pub own_times : (bytes : List ℕ) → (times : FinMap text_cmp ℕ) × AreTimeEntries bytes times → AreTimeEntries bytes (times_in bytes)
own_times bytes (times, are) = subst (AreTimeEntries bytes) (sym (times_are bytes times are)) are

no_entries : fin.entries (fin.empty {X = ℕ} {R = text_cmp}) ≡ []
unfolding IsStrictlySortedBy
no_entries = entries_in_order texts_total [] tt

-- no bytes are no entries
pub none_are : (bytes : List ℕ) → bytes ≡ [] → AreTimeEntries bytes fin.empty
none_are bytes none = record { is = none ∙ ap (flat_map time_entry) (sym no_entries); each = subst (All IsTimed) (sym no_entries) (All-nil IsTimed) }

pub none_own : (bytes : List ℕ) → bytes ≡ [] → times_in bytes ≡ fin.empty
none_own bytes none = times_are bytes fin.empty (none_are bytes none)

-- the bytes so far are entries, and the last of their ids
abbrev pub AreSoFar : List ℕ → List ℕ → Option (List ℕ) → Type 0
AreSoFar bytes rest last = (times : FinMap text_cmp ℕ) × HasTimed bytes rest times last

pub none_so_far : (bytes : List ℕ) → AreSoFar bytes bytes None
none_so_far bytes = (fin.empty, nothing_timed bytes fin.empty refl)

module _ (bytes rest : List ℕ) (last : Option (List ℕ)) (so_far : AreSoFar bytes rest last) where
  pub one_more : (id : List ℕ) (nanos : ℕ) (behind : List ℕ) → BeginsWithTime rest id nanos behind → IfSome last (λ l. text_cmp l id ≡ Less) → IsShortText id → AreSoFar bytes behind (Some id)
  one_more id nanos behind begins above text = (fin.insert so_far.0 id nanos, more_timed bytes rest so_far.0 last so_far.1 id nanos behind (fin.insert so_far.0 id nanos) begins above text refl)

  pub not_next : (id : List ℕ) (nanos : ℕ) (behind : List ℕ) → BeginsWithTime rest id nanos behind → (IfSome last (λ l. text_cmp l id ≡ Less) → IsShortText id → ⊥) → (others : FinMap text_cmp ℕ) → AreTimeEntries bytes others → ⊥
  not_next id nanos behind begins refused others are =
      let next = next_is bytes rest so_far.0 last so_far.1 id nanos behind begins others are in
      refused next.1 next.0

  pub all_so_far : rest ≡ [] → (times : FinMap text_cmp ℕ) × AreTimeEntries bytes times
  all_so_far none = (so_far.0, all_timed bytes rest so_far.0 last so_far.1 none)

  pub none_so : ((id : List ℕ) (nanos : ℕ) (behind : List ℕ) → BeginsWithTime rest id nanos behind → ⊥) → (rest ≡ [] → ⊥) → (others : FinMap text_cmp ℕ) → AreTimeEntries bytes others → ⊥
  none_so none some others are = not_timed bytes rest so_far.0 last so_far.1 none some others are

-- at the end of the bytes, or before something else
pub ends_at : (b : Bool) (rest : List ℕ) {A B : Type 0} → b ≡ (length rest == 0) → (rest ≡ [] → A) → ((rest ≡ [] → ⊥) → B) → MatchBool b A B
ends_at true rest is some none = some (empty_by rest is)
ends_at false rest is some none = none (not_empty rest is)

-- these are the times of the first entries, where the bytes are entries
abbrev pub TakesSoFar : List ℕ → List ℕ → FinMap text_cmp ℕ → Type 0
TakesSoFar bytes rest times = (others : FinMap text_cmp ℕ) → AreTimeEntries bytes others → (last : Option (List ℕ)) × HasTimed bytes rest times last

pub takes_nothing : (bytes : List ℕ) (times : FinMap text_cmp ℕ) → times ≡ fin.empty → TakesSoFar bytes bytes times
takes_nothing bytes times none others are = (None, nothing_timed bytes times none)

module _ (bytes rest : List ℕ) (times : FinMap text_cmp ℕ) (so_far : TakesSoFar bytes rest times) where
  pub takes_more : (id : List ℕ) (nanos : ℕ) (behind : List ℕ) (new : FinMap text_cmp ℕ) → BeginsWithTime rest id nanos behind → (IsShortText id → new ≡ fin.insert times id nanos) → TakesSoFar bytes behind new
  takes_more id nanos behind new begins put others are =
      let before = so_far others are in
      let next = next_is bytes rest times before.0 before.1 id nanos behind begins others are in
      (Some id, more_timed bytes rest times before.0 before.1 id nanos behind new begins next.1 next.0 (put next.0))

  pub takes_all : ((id : List ℕ) (nanos : ℕ) (behind : List ℕ) → BeginsWithTime rest id nanos behind → ⊥) → (others : FinMap text_cmp ℕ) → AreTimeEntries bytes others → times ≡ others
  takes_all none others are = at rest refl
    where
      before : (last : Option (List ℕ)) × HasTimed bytes rest times last
      before = so_far others are

      at : (l : List ℕ) → rest ≡ l → times ≡ others
      at [] is = sym (times_are bytes times (all_timed bytes rest times before.0 before.1 is)) ∙ times_are bytes others are
      at (b ∷ l) is = absurd (not_timed bytes rest times before.0 before.1 none (λ nothing. omega (arith, ap length (sym is ∙ nothing))) others are)

-- they are one thing
pub same_times : (bytes : List ℕ) (times others : FinMap text_cmp ℕ) → AreTimeEntries bytes times → AreTimeEntries bytes others → times ≡ others
same_times bytes times others are also = sym (times_are bytes times are) ∙ times_are bytes others also

-- ---- the whole cache

pub heading_behind : (old : List ℕ) (covers : ℕ) → ((old ++ with_newline times_title) ++ decimal covers) ++ 10 ∷ [] ≡ old ++ heading times_title covers
heading_behind old covers = append_assoc (old ++ with_newline times_title) (decimal covers) (10 ∷ []) ∙ append_assoc old (with_newline times_title) (with_newline (decimal covers))

pub cache_is : (bytes head entries : List ℕ) (covers : ℕ) (times : FinMap text_cmp ℕ) → bytes ≡ head ++ entries → head ≡ heading times_title covers → AreTimeEntries entries times → covers < 2 ^ 64 → IsTimesCache bytes covers times
cache_is bytes head entries covers times is head_is are small = record {
  is = is ∙ (λ i. head_is i ++ are.is i);
  number = small;
  each = are.each;
}

pub cache_of : (bytes entries : List ℕ) (covers : ℕ) (times others : FinMap text_cmp ℕ) → AreTimeEntries entries times → AreTimeEntries entries others → IsTimesCache bytes covers times → IsTimesCache bytes covers others
cache_of bytes entries covers times others are also cache = subst (λ (m : FinMap text_cmp ℕ). IsTimesCache bytes covers m) (same_times entries times others are also) cache

-- what is spliced in at the front stands before what was there
pub stands_before : {Z : Type 0} (s : IntoIter ℕ Z) (xs front old new : List ℕ) → into_iter_items s ≡ front → into_iter_len s ≡ length front → Drains (into_iter_steps {X = ℕ} {Z = Z}) s xs → new ≡ splice old 0 0 xs → new ≡ front ++ old
stands_before s xs front old new items len drains is =
    is ∙ ap (λ l. l ++ old) (sym (map-id xs) ∙ items_from_drains xs (drains.1.0, drains.1.1, λ _. (drains.0, drains.1.2)) (YieldsList-from_vec front items len))
