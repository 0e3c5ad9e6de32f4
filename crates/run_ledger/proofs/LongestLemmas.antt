-- The times of a run's rows, and of each id the longest.
use Rattle.std.proofs.Common.{◌≡◌, ℕ, ◌+◌, ◌<◌, ◌^◌, Bool, true, false, true≢false, cond, ◌&&◌, List, [], ◌∷◌, ◌++◌, Option, Some, None, is_some, map, max, length, take, get_or, refl, sym, ap, ◌∙◌, subst}
use Rattle.std.specs.FinMap as fin
use Rattle.std.specs.List.{All, filter}
use Rattle.std.specs.List.Sorted.{IsPermutation}
use Rattle.std.specs.Option.{unwrap_or}
use Rattle.std.specs.Ordering.{eq_by_cmp}
use Rattle.std.proofs.lemmas.List.Sorted.{All-permutation, IsPermutation-map}
use Rattle.std.proofs.lemmas.List.Elements.{All-push}
use Rattle.std.proofs.lemmas.List.{append-nil}
use Rattle.sub_number.specs.Texts.{IsShortText}
use Rattle.outcome_fold.specs.declared.row.Row.{Row}
use Rattle.outcome_fold.specs.Order.{text_cmp, table}
use Rattle.outcome_fold.specs.Answers.{ids_of, is_run, timed_rows, longest, times_of}
use Rattle.outcome_fold.specs.Longest.{AreSorted, last_of_each, longest_of, longest_in}
use Rattle.outcome_fold.proofs.AnswerLemmas.{filter_at}
use Rattle.outcome_fold.proofs.GroupLemmas.{map_push}
use Rattle.outcome_fold.proofs.StrictLemmas.{Timed, Strict}
use Rattle.outcome_fold.proofs.LastsLemmas.{all_lasts, sorted_strict, sorted_longest}
use Rattle.run_ledger.specs.Caches.{IsTimed}
use Rattle.run_ledger.specs.Merging.{timed_of}

abbrev timed : Row → Timed
timed row = (row.id, unwrap_or row.nanos 0)

longest_is : (ts : List Row) (q : List ℕ) → longest_of (map timed ts) q ≡ longest ts q
longest_is [] q = refl
longest_is (t ∷ ts) q = ap (λ n. cond (eq_by_cmp text_cmp q t.id) (max (unwrap_or t.nanos 0) n) n) (longest_is ts q)

ids_are : (ts : List Row) → map (λ e. e.0) (map timed ts) ≡ ids_of ts
ids_are [] = refl
ids_are (t ∷ ts) = ap (λ l. t.id ∷ l) (ids_are ts)

in_rows : (rows : List Row) → longest_in (timed_of rows) ≡ times_of rows
in_rows rows = λ i. table {R = text_cmp} (λ q. longest_is (timed_rows rows) q i) (ids_are (timed_rows rows) i)

module _ (rows : List Row) (sorted : List Timed) (are : AreSorted (timed_of rows) sorted) where
  pub longest_strict : Strict (last_of_each sorted)
  longest_strict = sorted_strict (timed_of rows) sorted are

  pub longest_are : fin.from_entries (last_of_each sorted) ≡ times_of rows
  longest_are = sorted_longest (timed_of rows) sorted are ∙ in_rows rows

-- ---- row by row

abbrev is_timed : Row → Bool
is_timed row = is_run row && is_some row.nanos

timed_both : (b : Bool) (o : Option ℕ) (n : ℕ) → Some n ≡ cond b o None → ((b && is_some o) ≡ true) × (n ≡ unwrap_or o 0)
timed_both true o n is = (ap is_some (sym is), ap (λ x. unwrap_or x 0) is)
timed_both false o n is = absurd (true≢false (ap is_some is))

timed_neither : (b : Bool) (o : Option ℕ) → None ≡ cond b o None → (b && is_some o) ≡ false
timed_neither true o is = ap is_some (sym is)
timed_neither false o is = refl

module _ (rows : List Row) (i : ℕ) (row : Row) (within : i < length rows) (is : row ≡ get_or rows i row) where
  at_row : timed_of (take (i + 1) rows) ≡ map timed (filter is_timed (take i rows) ++ cond (is_timed row) (row ∷ []) [])
  at_row = ap (map timed) (filter_at is_timed rows i row within is)

  pub row_timed : (n : ℕ) → Some n ≡ cond (is_run row) row.nanos None → timed_of (take i rows) ++ (row.id, n) ∷ [] ≡ timed_of (take (i + 1) rows)
  row_timed n some =
      let both = timed_both (is_run row) row.nanos n some in
      (λ j. timed_of (take i rows) ++ (row.id, both.1 j) ∷ []) ∙ sym (at_row ∙ ap (λ b. map timed (filter is_timed (take i rows) ++ cond b (row ∷ []) [])) both.0 ∙ map_push timed (filter is_timed (take i rows)) row)

  pub row_not_timed : None ≡ cond (is_run row) row.nanos None → timed_of (take i rows) ≡ timed_of (take (i + 1) rows)
  row_not_timed none =
      sym (at_row ∙ ap (λ b. map timed (filter is_timed (take i rows) ++ cond b (row ∷ []) [])) (timed_neither (is_run row) row.nanos none) ∙ ap (map timed) (append-nil (filter is_timed (take i rows))))

-- one more of those that the code keeps
module _ {A : Type 0} (f : A → Timed) (new old : List A) (x : A) (is : new ≡ old ++ x ∷ []) where
  pub pushed_is : (before after : List Timed) (e : Timed) → f x ≡ e → map f old ≡ before → before ++ e ∷ [] ≡ after → map f new ≡ after
  pushed_is before after e at so_far all = ap (map f) is ∙ map_push f old x ∙ (λ i. so_far i ++ at i ∷ []) ∙ all

  pub pushed_timed : All IsTimed (map f old) → IsShortText (f x).0 → (f x).1 < 2 ^ 64 → All IsTimed (map f new)
  pushed_timed each text time = subst (All IsTimed) (sym (ap (map f) is ∙ map_push f old x)) (All-push IsTimed (map f old) (f x) each (record { text = text; time = time }))

pub moved_timed : {A : Type 0} (f : A → Timed) (xs ys : List A) → IsPermutation xs ys → All IsTimed (map f xs) → All IsTimed (map f ys)
moved_timed f xs ys moved each = All-permutation IsTimed (map f xs) (map f ys) (IsPermutation-map f xs ys moved) each

-- what is left of them
pub kept_timed : {A : Type 0} (f : A → Timed) (sorted kept : List A) → map f kept ≡ last_of_each (map f sorted) → All IsTimed (map f sorted) → All IsTimed (map f kept)
kept_timed f sorted kept is each = subst (All IsTimed) (sym is) (all_lasts IsTimed (map f sorted) each)
