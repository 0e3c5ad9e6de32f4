-- Times in order, and of each id the last.
use Rattle.std.proofs.Common.{◌≡◌, ◌≢◌, ◌⊎◌, inl, inr, ℕ, suc, ◌+◌, ◌-◌, ◌<◌, ◌≤◌, Bool, true, false, true≢false, cond, List, [], ◌∷◌, ◌++◌, Option, Some, None, map, length, take, drop, get_or, refl, sym, ap, ◌∙◌, subst, append_assoc, add-one, drop-cons, arith}
use Rattle.std.specs.FinMap as fin
use Rattle.std.specs.FinMap.{find, same_map, get-from_entries}
use Rattle.std.specs.List.{All}
use Rattle.std.specs.List.Sorted.{IsPermutation, IsSorted, IsSortedBy}
use Rattle.std.specs.Ordering.{is_lt, nat_cmp, ordering_then, eq_by_cmp}
use Rattle.std.specs.Cmp.{IsTotalOrder, nat_cmp_is}
use Rattle.std.specs.declared.cmp.Ordering.TheVariants.{Less, Equal, Greater}
use Rattle.std.proofs.lemmas.Bool.{cases_lt}
use Rattle.std.proofs.lemmas.Cmp.{on_total, then_total, nat_cmp_total}
use Rattle.std.proofs.lemmas.List.MinMax.{ranks_by}
use Rattle.std.proofs.lemmas.List.Sorted.{sorted_far, IsPermutation-map}
use Rattle.std.proofs.lemmas.List.Elements.{All-nil, All-cons, All-head, All-tail, All-weaker, All-push, All-map}
use Rattle.std.proofs.lemmas.List.{append-nil, drop_all, take_more, take_rest, get_or_default, length-map}
use Rattle.std.proofs.Math.ListN.{get_or-map}
use Rattle.sub_number.specs.Texts.{IsShortText}
use Rattle.outcome_fold.specs.Order.{text_cmp}
use Rattle.outcome_fold.specs.Longest.{timed_cmp, AreSorted, ends_before, last_of_each, longest_in}
use Rattle.outcome_fold.proofs.OrderLemmas.{texts_total, exact_texts}
use Rattle.outcome_fold.proofs.TableLemmas.{tied_is, entries_in_order}
use Rattle.outcome_fold.proofs.GroupLemmas.{map_push}
use Rattle.outcome_fold.proofs.StrictLemmas.{Timed, Above, Strict, less_is, turned, apart, strict_keys}
use Rattle.outcome_fold.proofs.LongestLemmas.{IsLongest, one_longest, moved_longest, are_longest, here_as, there, skips, differs}

-- of a lower id, or of the same one and no longer
abbrev Up : Timed → Timed → Type 0
Up e f = (text_cmp e.0 f.0 ≡ Less) ⊎ ((e.0 ≡ f.0) × (e.1 ≤ f.1))

abbrev Rises : List Timed → Type 0
Rises [] = Unit {0}
Rises (e ∷ es) = All (Up e) es × Rises es

timed_total : IsTotalOrder timed_cmp
timed_total = then_total (on_total (λ e. e.0) texts_total) (on_total (λ e. e.1) nat_cmp_total)

no_less : (m n : ℕ) → is_lt (nat_cmp m n) ≡ false → n ≤ m
no_less m n is = elim (cases_lt m n) [
  | inl less ↦ absurd (true≢false (ap is_lt (nat_cmp_is m n Less less) ∙ is))
  | inr le ↦ le
]

up_is : (e f : Timed) → is_lt (timed_cmp f e) ≡ false → Up e f
up_is e f = elim (text_cmp f.0 e.0) as (λ o. text_cmp f.0 e.0 ≡ o → is_lt (ordering_then o (nat_cmp f.1 e.1)) ≡ false → Up e f) [
  | Less ↦ λ at is. absurd (true≢false is)
  | Equal ↦ λ at is. inr (sym (exact_texts f.0 e.0 at), no_less f.1 e.1 is)
  | Greater ↦ λ at is. inl (turned f.0 e.0 at)
] refl

rises : (es : List Timed) → IsSorted timed_cmp es → Rises es
rises [] sorted = tt
rises (e ∷ es) sorted = (
  (λ k d below. up_is e _ (sorted_far (λ x y. is_lt (timed_cmp x y)) (ranks_by timed_total (λ e. e)) (e ∷ es) sorted 0 (suc k) d (omega arith) (omega (arith, below)))),
  rises es (λ k d low below. rw add-one (rw add-one at (sorted (suc k) d (omega arith) (omega (arith, below))))),
)

-- ---- the last of each id

last_more : (P : Timed → Type 0) (e : Timed) (es : List Timed) (b : Bool) → P e → All P (last_of_each es) → All P (cond b (e ∷ last_of_each es) (last_of_each es))
last_more P e es true first rest = All-cons P e (last_of_each es) first rest
last_more P e es false first rest = rest

pub all_lasts : (P : Timed → Type 0) (es : List Timed) → All P es → All P (last_of_each es)
all_lasts P [] all = All-nil P
all_lasts P (e ∷ es) all = last_more P e es (ends_before e es) (All-head P e es all) (all_lasts P es (All-tail P e es all))

-- where those behind begin with a greater id, all of theirs are greater
all_above : (e : Timed) (es : List Timed) → ends_before e es ≡ true → All (Up e) es → Rises es → Above e.0 es
all_above e [] ends up rise = All-nil (λ (f : Timed). text_cmp e.0 f.0 ≡ Less)
all_above e (f ∷ es) ends up rise =
    let less : text_cmp e.0 f.0 ≡ Less = less_is (text_cmp e.0 f.0) ends in
    All-cons (λ g. text_cmp e.0 g.0 ≡ Less) f es less
    (All-weaker (Up f) (λ g. text_cmp e.0 g.0 ≡ Less) (λ g at. elim at [
      | inl higher ↦ texts_total.trans e.0 f.0 g.0 less higher
      | inr same ↦ subst (λ (k : List ℕ). text_cmp e.0 k ≡ Less) same.0 less
    ]) es rise.0)

lasts_strict : (es : List Timed) → Rises es → Strict (last_of_each es)
lasts_strict [] rise = tt
lasts_strict (e ∷ es) rise = elim (ends_before e es) as (λ b. ends_before e es ≡ b → Strict (cond b (e ∷ last_of_each es) (last_of_each es))) [
  | true ↦ λ ends. (all_lasts (λ f. text_cmp e.0 f.0 ≡ Less) es (all_above e es ends rise.0 rise.1), lasts_strict es rise.1)
  | false ↦ λ ends. lasts_strict es rise.1
] refl

-- an id that all others are above
first_longest : (e : Timed) (es : List Timed) (q : List ℕ) (o : Option ℕ) → Above e.0 es → IsLongest es q o → IsLongest (e ∷ es) q (cond (eq_by_cmp text_cmp q e.0) (Some e.1) o)
first_longest e es q o above is = elim (eq_by_cmp text_cmp q e.0) as (λ b. eq_by_cmp text_cmp q e.0 ≡ b → IsLongest (e ∷ es) q (cond b (Some e.1) o)) [
  | true ↦ λ tie. let same : q ≡ e.0 = tied_is exact_texts q e.0 tie in (
    here_as e es q e.1 (sym same) refl,
    All-cons (λ f. f.0 ≡ q → f.1 ≤ e.1) e es (λ same. omega arith) (All-weaker (λ f. text_cmp e.0 f.0 ≡ Less) (λ f. f.0 ≡ q → f.1 ≤ e.1) (λ f less at. absurd (apart e.0 f.0 less (sym same ∙ sym at))) es above),
  )
  | false ↦ λ tie. skips e es q o (differs q e.0 tie) is
] refl

-- one before another of its id, which is no shorter
under_next : (e f : Timed) (es : List Timed) (q : List ℕ) (o : Option ℕ) → e.0 ≡ f.0 → e.1 ≤ f.1 → IsLongest (f ∷ es) q o → IsLongest (e ∷ f ∷ es) q o
under_next e f es q None same le is = All-cons (λ g. g.0 ≢ q) e (f ∷ es) (λ at. All-head (λ g. g.0 ≢ q) f es is (sym same ∙ at)) is
under_next e f es q (Some n) same le is = (there e (f ∷ es) (q, n) is.0, All-cons (λ g. g.0 ≡ q → g.1 ≤ n) e (f ∷ es) (λ at. up e.1 f.1 le (All-head (λ g. g.0 ≡ q → g.1 ≤ n) f es is.1 (sym same ∙ at))) is.1)
  where
    up : (a b : ℕ) → a ≤ b → b ≤ n → a ≤ n
    up a b one two = omega (arith, one, two)

lasts_longest : (es : List Timed) → Rises es → (q : List ℕ) → IsLongest es q (find text_cmp q (last_of_each es))
lasts_longest [] rise q = All-nil (λ (e : Timed). e.0 ≢ q)
lasts_longest (e ∷ []) rise q = first_longest e [] q None (All-nil (λ (f : Timed). text_cmp e.0 f.0 ≡ Less)) (All-nil (λ (f : Timed). f.0 ≢ q))
lasts_longest (e ∷ f ∷ es) rise q =
    let rest : IsLongest (f ∷ es) q (find text_cmp q (last_of_each (f ∷ es))) = lasts_longest (f ∷ es) rise.1 q in
    elim (is_lt (text_cmp e.0 f.0)) as (λ b. is_lt (text_cmp e.0 f.0) ≡ b → IsLongest (e ∷ f ∷ es) q (find text_cmp q (cond b (e ∷ last_of_each (f ∷ es)) (last_of_each (f ∷ es))))) [
      | true ↦ λ ends. first_longest e (f ∷ es) q _ (all_above e (f ∷ es) ends rise.0 rise.1) rest
      | false ↦ λ ends. elim (All-head (Up e) f es rise.0) [
        | inl less ↦ absurd (true≢false (sym (ap is_lt less) ∙ ends))
        | inr same ↦ under_next e f es q _ same.0 same.1 rest
      ]
    ] refl

-- ---- all of them

module _ (times sorted : List Timed) (are : AreSorted times sorted) where
  pub sorted_strict : Strict (last_of_each sorted)
  sorted_strict = lasts_strict sorted (rises sorted are.ordered)

  pub sorted_longest : fin.from_entries (last_of_each sorted) ≡ longest_in times
  sorted_longest = same_map texts_total exact_texts _ _ (λ q.
      get-from_entries texts_total (last_of_each sorted) q
      ∙ one_longest sorted q _ _ (lasts_longest sorted (rises sorted are.ordered) q) (moved_longest times sorted q _ are.moved (are_longest times q)))

  -- the entries of the finite map
  pub sorted_entries : last_of_each sorted ≡ fin.entries (longest_in times)
  sorted_entries = sym (entries_in_order texts_total (last_of_each sorted) (strict_keys (last_of_each sorted) sorted_strict)) ∙ ap fin.entries sorted_longest

-- ---- one more in a loop

module _ {A : Type 0} (f : A → Timed) (xs : List A) (i : ℕ) (d : A) (within : i < length xs) (kept : List A) (all : List Timed) (so_far : map f kept ++ last_of_each (map f (drop i xs)) ≡ all) where
  next_one : map f (drop i xs) ≡ f (get_or xs i d) ∷ map f (drop (i + 1) xs)
  next_one = ap (map f) (drop-cons xs i d within ∙ ap (λ n. get_or xs i d ∷ drop n xs) (sym (add-one i)))

  one_step : (b : Bool) → ends_before (f (get_or xs i d)) (map f (take (length xs - (i + 1)) (drop (i + 1) xs))) ≡ b
      → last_of_each (map f (drop i xs)) ≡ cond b (f (get_or xs i d) ∷ last_of_each (map f (drop (i + 1) xs))) (last_of_each (map f (drop (i + 1) xs)))
  one_step b ends =
      ap last_of_each next_one
      ∙ ap (λ c. cond c (f (get_or xs i d) ∷ last_of_each (map f (drop (i + 1) xs))) (last_of_each (map f (drop (i + 1) xs)))) (ap (λ l. ends_before (f (get_or xs i d)) (map f l)) (sym (take_rest xs (i + 1))) ∙ ends)

  pub keeps_more : (new : List A) → new ≡ kept ++ get_or xs i d ∷ [] → ends_before (f (get_or xs i d)) (map f (take (length xs - (i + 1)) (drop (i + 1) xs))) ≡ true → map f new ++ last_of_each (map f (drop (i + 1) xs)) ≡ all
  keeps_more new is ends =
      ap (λ l. map f l ++ last_of_each (map f (drop (i + 1) xs))) is ∙ ap (λ l. l ++ last_of_each (map f (drop (i + 1) xs))) (map_push f kept (get_or xs i d))
      ∙ append_assoc (map f kept) (f (get_or xs i d) ∷ []) (last_of_each (map f (drop (i + 1) xs))) ∙ ap (λ l. map f kept ++ l) (sym (one_step true ends)) ∙ so_far

  pub keeps_none : (new : List A) → new ≡ kept → ends_before (f (get_or xs i d)) (map f (take (length xs - (i + 1)) (drop (i + 1) xs))) ≡ false → map f new ++ last_of_each (map f (drop (i + 1) xs)) ≡ all
  keeps_none new is ends = ap (λ l. map f l ++ last_of_each (map f (drop (i + 1) xs))) is ∙ ap (λ l. map f kept ++ l) (sym (one_step false ends)) ∙ so_far

pub kept_all : {A : Type 0} (f : A → Timed) (xs : List A) (i : ℕ) (kept : List A) (all : List Timed) → length xs ≤ i → map f kept ++ last_of_each (map f (drop i xs)) ≡ all → map f kept ≡ all
kept_all f xs i kept all past so_far = sym (append-nil (map f kept)) ∙ ap (λ l. map f kept ++ last_of_each (map f l)) (sym (drop_all i xs past)) ∙ so_far

-- ---- the order of the code

module _ {A B : Type 0} (f : A → B) (lt : B → B → Bool) where
  pub sorted_by : (xs : List A) → IsSortedBy (λ x y. lt (f x) (f y)) xs → IsSortedBy lt (map f xs)
  sorted_by [] sorted k d low within = absurd (omega (arith, within))
  sorted_by (x ∷ xs) sorted k d low within =
      let size : length (map f (x ∷ xs)) ≡ length (x ∷ xs) = length-map (x ∷ xs) f in
      let next : get_or (map f (x ∷ xs)) (k + 1) d ≡ f (get_or (x ∷ xs) (k + 1) x) = get_or_default (map f (x ∷ xs)) (k + 1) d (f x) within ∙ get_or-map f (x ∷ xs) (k + 1) x in
      let this : get_or (map f (x ∷ xs)) k d ≡ f (get_or (x ∷ xs) k x) = get_or_default (map f (x ∷ xs)) k d (f x) (omega (arith, within)) ∙ get_or-map f (x ∷ xs) k x in
      (λ i. lt (next i) (this i)) ∙ sorted k x low (omega (arith, within, size))

pub sorted_shown : {A : Type 0} (f : A → Timed) (timed : List Timed) (xs ys : List A) → map f xs ≡ timed → IsPermutation xs ys → IsSorted (λ x y. timed_cmp (f x) (f y)) ys → AreSorted timed (map f ys)
sorted_shown f timed xs ys is moved ordered = record {
  moved = subst (λ (l : List Timed). IsPermutation l (map f ys)) is (IsPermutation-map f xs ys moved);
  ordered = sorted_by f (λ x y. is_lt (timed_cmp x y)) ys ordered;
}

-- ---- the times of the code

-- one more of those that are lent
pub lent_more : {A B : Type 0} (f : A → Timed) (g : B → Timed) (old new : List A) (a : A) (xs : List B) (i : ℕ) (x : B) → i < length xs → x ≡ get_or xs i x → new ≡ old ++ a ∷ [] → f a ≡ g x → map f old ≡ map g (take i xs)
    → map f new ≡ map g (take (i + 1) xs)
lent_more f g old new a xs i x within item is shown so_far =
    ap (map f) is ∙ map_push f old a
    ∙ (λ j. so_far j ++ shown j ∷ [])
    ∙ sym (ap (map g) (take_more xs i x within ∙ ap (λ x. take i xs ++ x ∷ []) (sym item)) ∙ map_push g (take i xs) x)

module _ {A : Type 0} (f : A → Timed) where
  -- the id is a text
  abbrev pub IsShort : A → Type 0
  IsShort a = IsShortText (f a).0

  pub texts_more : (old new : List A) (a : A) → new ≡ old ++ a ∷ [] → IsShort a → All IsShort old → All IsShort new
  texts_more old new a is short each = subst (All IsShort) (sym is) (All-push IsShort old a each short)

  pub texts_kept : (sorted kept : List A) → map f kept ≡ last_of_each (map f sorted) → All IsShort sorted → All IsShort kept
  texts_kept sorted kept is each = shown kept (subst (All (λ e. IsShortText e.0)) (sym is) (all_lasts (λ e. IsShortText e.0) (map f sorted) (All-map (λ e. IsShortText e.0) f sorted each)))
    where
      shown : (xs : List A) → All (λ e. IsShortText e.0) (map f xs) → All IsShort xs
      shown [] all = All-nil IsShort
      shown (x ∷ xs) all = All-cons IsShort x xs (All-head (λ (e : Timed). IsShortText e.0) (f x) (map f xs) all) (shown xs (All-tail (λ (e : Timed). IsShortText e.0) (f x) (map f xs) all))
