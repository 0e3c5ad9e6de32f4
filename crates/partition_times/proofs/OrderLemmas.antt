-- Lists in order, each element once.
use Rattle.std.proofs.Common.{◌≡◌, ◌||◌, Bool, true, false, cond, List, [], ◌∷◌, map, None, Some, is_some, refl, sym, ◌∙◌, ap, ap₂, arith, length, subst, true≢false, ◌&&◌}
use Rattle.std.specs.FinMap.Entries.{below_all, by_order}
use lib.Dec.{T}
use Rattle.std.specs.FinMap as fin
use Rattle.std.specs.FinMap.{find, put, is_sorted, entries_sorted, same_map, IsAntisymmetric, get-from_entries, entries-insert, len-entries, len-empty, contains_key-keys}
use Rattle.std.specs.List.{AllByRecursion, list_any, IsDistinct}
use Rattle.std.specs.List.Sorted.{IsStrictlySortedBy, IsPermutation}
use Rattle.std.proofs.lemmas.List.Sorted.{IsPermutation-refl, IsPermutation-cons, IsPermutation-trans, IsPermutation-middle, IsPermutation-map}
use Rattle.std.specs.Cmp.{IsTotalOrder}
use Rattle.std.proofs.lemmas.Cmp.{alike_right}
use Rattle.std.specs.Map.{keys_of}
use Rattle.std.specs.BTreeMap.{insert_entry}
use Rattle.std.specs.Ordering.{eq_by_cmp, is_eq, is_lt, match_ordering}
use Rattle.std.specs.declared.cmp.Ordering.{Ordering}
use Rattle.std.specs.declared.cmp.Ordering.TheVariants.{Less, Equal, Greater}
use Rattle.partition_times.specs.Order.{in_order}

none_of_length : {A : Type 0} (es : List A) → length es ≡ 0 → es ≡ []
none_of_length [] none = refl
none_of_length (e ∷ es) none = absurd (omega arith)

module _ {K : Type 0} where
  abbrev marked : List K → List (K × Unit {0})
  marked keys = map (λ key. (key, tt {0})) keys

  keys_of_marked : (keys : List K) → map (λ (e : K × Unit {0}). e.0) (marked keys) ≡ keys
  keys_of_marked [] = refl
  keys_of_marked (key ∷ keys) = ap (λ rest. key ∷ rest) (keys_of_marked keys)

module _ {K : Type 0} (R : K → K → Ordering) where
  put_first : (key : K) (keys : List K) → AllByRecursion (λ other. R key other ≡ Less) keys → put R key (tt {0}) (marked keys) ≡ (key, tt {0}) ∷ marked keys
  put_first key [] below = refl
  put_first key (other ∷ keys) below = rw below.0 refl

  found_marked : (q : K) (keys : List K) → find R q (marked keys) ≡ cond (list_any (eq_by_cmp R q) keys) (Some (tt {0})) None
  found_marked q [] = refl
  found_marked q (key ∷ keys) = elim (eq_by_cmp R q key) as (λ b. cond b (Some (tt {0})) (find R q (marked keys)) ≡ cond (b || list_any (eq_by_cmp R q) keys) (Some (tt {0})) None) [ true ↦ refl | false ↦ found_marked q keys ]

module _ {K : Type 0} {R : K → K → Ordering} where
  module _ (total : IsTotalOrder R) where
    entries_in_order : (keys : List K) → IsStrictlySortedBy R keys → fin.entries (fin.from_entries {R = R} (marked keys)) ≡ marked keys
    unfolding IsStrictlySortedBy
    entries_in_order [] sorted = none_of_length _ (sym (len-entries (fin.empty {R = R})) ∙ len-empty R (Unit {0}))
    entries_in_order (key ∷ keys) sorted =
        entries-insert total (fin.from_entries (marked keys)) key (tt {0}) ∙ ap (put R key (tt {0})) (entries_in_order keys sorted.1) ∙ put_first R key keys sorted.0

    -- keys in order stay as they are
    pub strict_in_order : (keys : List K) → IsStrictlySortedBy R keys → in_order R keys ≡ keys
    strict_in_order keys sorted = ap (map (λ e. e.0)) (entries_in_order keys sorted) ∙ keys_of_marked keys

    -- the order has the keys, and no others
    pub any_in_order : (q : K) (keys : List K) → list_any (eq_by_cmp R q) (in_order R keys) ≡ list_any (eq_by_cmp R q) keys
    any_in_order q keys =
        sym (contains_key-keys (fin.from_entries {R = R} (marked keys)) q) ∙ ap is_some (get-from_entries total (marked keys) q ∙ found_marked R q keys) ∙ is_some_if (list_any (eq_by_cmp R q) keys)
      where
        is_some_if : (b : Bool) → is_some (cond b (Some (tt {0})) None) ≡ b
        is_some_if true = refl
        is_some_if false = refl

    module _ (exact : IsAntisymmetric R) where
      -- where the same keys stand, the order is the same
      pub same_in_order : (keys others : List K) → ((q : K) → list_any (eq_by_cmp R q) keys ≡ list_any (eq_by_cmp R q) others) → in_order R keys ≡ in_order R others
      same_in_order keys others same =
          ap fin.keys (same_map total exact (fin.from_entries {R = R} (marked keys)) (fin.from_entries {R = R} (marked others)) (λ q.
          get-from_entries total (marked keys) q ∙ found_marked R q keys ∙ ap (λ b. cond b (Some (tt {0})) None) (same q)
          ∙ sym (get-from_entries total (marked others) q ∙ found_marked R q others)))

      -- so keys in order are what others are in order, if the same keys stand there
      pub sorted_in_order : (keys others : List K) → IsStrictlySortedBy R keys → ((q : K) → list_any (eq_by_cmp R q) keys ≡ list_any (eq_by_cmp R q) others) → in_order R others ≡ keys
      sorted_in_order keys others sorted same = sym (same_in_order keys others same) ∙ strict_in_order keys sorted

-- keys that are in order by what f makes of them
pub sorted_by : {K J : Type 0} (f : K → J) (R : J → J → Ordering) (keys : List K) → IsStrictlySortedBy (λ x y. R (f x) (f y)) keys → IsStrictlySortedBy R (map f keys)
unfolding IsStrictlySortedBy
sorted_by f R [] sorted = tt
sorted_by f R (key ∷ keys) sorted = (below key keys sorted.0, sorted_by f R keys sorted.1)
  where
    below : (key : _) (keys : List _) → AllByRecursion (λ other. R (f key) (f other) ≡ Less) keys → AllByRecursion (λ other. R (f key) other ≡ Less) (map f keys)
    below key [] all = tt
    below key (other ∷ keys) all = (all.0, below key keys all.1)

-- a map whose keys are in order by what f makes of them, after an insertion
or_turn : (a b c : Bool) → (a || (b || c)) ≡ (b || (a || c))
or_turn true true c = refl
or_turn true false c = refl
or_turn false true c = refl
or_turn false false c = refl

or_twice : (a b c : Bool) → a ≡ b → (b || c) ≡ (a || (b || c))
or_twice true true c same = refl
or_twice false false c same = refl
or_twice true false c same = absurd (true≢false same)
or_twice false true c same = absurd (true≢false (sym same))

module _ {K J X : Type 0} (f : K → J) {R : J → J → Ordering} (total : IsTotalOrder R) where
  pub any_inserted : (q : J) (key : K) (value : X) (es : List (K × X)) →
      list_any (eq_by_cmp R q) (map f (keys_of (insert_entry (λ x y. R (f x) (f y)) es key value))) ≡ (eq_by_cmp R q (f key) || list_any (eq_by_cmp R q) (map f (keys_of es)))
  any_inserted q key value [] = refl
  any_inserted q key value (e ∷ es) =
      elim (R (f key) (f e.0)) as (λ order. R (f key) (f e.0) ≡ order →
      list_any (eq_by_cmp R q) (map f (keys_of (match_ordering order ((key, value) ∷ e ∷ es) ((e.0, value) ∷ es) (e ∷ insert_entry (λ x y. R (f x) (f y)) es key value))))
      ≡ (eq_by_cmp R q (f key) || (eq_by_cmp R q (f e.0) || list_any (eq_by_cmp R q) (map f (keys_of es))))) [
        | Less ↦ λ is. refl
        | Equal ↦ λ is. or_twice _ _ _ (ap is_eq (alike_right total (f key) (f e.0) q is))
        | Greater ↦ λ is. ap (λ b. eq_by_cmp R q (f e.0) || b) (any_inserted q key value es) ∙ or_turn (eq_by_cmp R q (f e.0)) (eq_by_cmp R q (f key)) _
      ] refl

  pub all_inserted : IsAntisymmetric R → (P : J → X → Type 0) (key : K) (value : X) → P (f key) value → (es : List (K × X)) → AllByRecursion (λ e. P (f e.0) e.1) es → AllByRecursion (λ e. P (f e.0) e.1) (insert_entry (λ x y. R (f x) (f y)) es key value)
  all_inserted exact P key value holds [] all = (holds, tt)
  all_inserted exact P key value holds (e ∷ es) all =
      elim (R (f key) (f e.0)) as (λ order. R (f key) (f e.0) ≡ order →
      AllByRecursion (λ e. P (f e.0) e.1) (match_ordering order ((key, value) ∷ e ∷ es) ((e.0, value) ∷ es) (e ∷ insert_entry (λ x y. R (f x) (f y)) es key value))) [
        | Less ↦ λ is. (holds, all)
        | Equal ↦ λ is. (subst (λ k. P k value) (exact (f key) (f e.0) is) holds, all.1)
        | Greater ↦ λ is. (all.0, all_inserted exact P key value holds es all.1)
      ] refl

-- the order has each key once
both_true : (a b : Bool) → T (a && b) → T a × T b
both_true true true ok = (tt, tt)
both_true true false ok = absurd ok
both_true false b ok = absurd ok

is_less : (o : Ordering) → T (is_lt o) → o ≡ Less
is_less Less ok = refl
is_less Equal ok = absurd ok
is_less Greater ok = absurd ok

module _ {K : Type 0} (R : K → K → Ordering) where
  strict_of : (es : List (K × Unit {0})) → T (is_sorted R es) → IsStrictlySortedBy R (map (λ e. e.0) es)
  unfolding IsStrictlySortedBy
  strict_of [] sorted = tt
  strict_of (e ∷ es) sorted = let parts = both_true _ _ sorted in (below e.0 es parts.0, strict_of es parts.1)
    where
      below : (key : K) (es : List (K × Unit {0})) → T (below_all R key es) → AllByRecursion (λ other. R key other ≡ Less) (map (λ e. e.0) es)
      below key [] ok = tt
      below key (e ∷ es) ok = let parts = both_true _ _ ok in (is_less _ parts.0, below key es parts.1)

  pub strictly_in_order : (keys : List K) → IsStrictlySortedBy R (in_order R keys)
  strictly_in_order keys = strict_of _ (entries_sorted (fin.from_entries {R = R} (marked keys)))

module _ {K : Type 0} {R : K → K → Ordering} (total : IsTotalOrder R) where
  -- a key that is not there yet comes to its place
  put_permutes : (key : K) (es : List (K × Unit {0})) → AllByRecursion (λ other. eq_by_cmp R key other ≡ false) (map (λ e. e.0) es) → IsPermutation ((key, tt {0}) ∷ es) (put R key (tt {0}) es)
  put_permutes key [] apart = IsPermutation-refl ((key, tt {0}) ∷ [])
  put_permutes key (e ∷ es) apart =
      elim (R key e.0) as (λ order. R key e.0 ≡ order → IsPermutation ((key, tt {0}) ∷ e ∷ es) (by_order order ((key, tt {0}) ∷ e ∷ es) ((e.0, tt {0}) ∷ es) (e ∷ put R key (tt {0}) es))) [
        | Less ↦ λ is. IsPermutation-refl ((key, tt {0}) ∷ e ∷ es)
        | Equal ↦ λ is. absurd (true≢false (sym (ap is_eq is) ∙ apart.0))
        | Greater ↦ λ is. IsPermutation-trans _ _ _ (IsPermutation-swap_two (key, tt {0}) e es) (IsPermutation-cons e _ _ (put_permutes key es apart.1))
      ] refl
    where
      IsPermutation-swap_two : (x y : K × Unit {0}) (zs : List (K × Unit {0})) → IsPermutation (x ∷ y ∷ zs) (y ∷ x ∷ zs)
      IsPermutation-swap_two x y zs = IsPermutation-middle (x ∷ []) y zs

  keys_apart : (key : K) (keys : List K) → AllByRecursion (λ other. eq_by_cmp R key other ≡ false) keys → list_any (eq_by_cmp R key) keys ≡ false
  keys_apart key [] apart = refl
  keys_apart key (other ∷ keys) apart = ap₂ ◌||◌ apart.0 (keys_apart key keys apart.1)

  apart_of : (key : K) (keys : List K) → list_any (eq_by_cmp R key) keys ≡ false → AllByRecursion (λ other. eq_by_cmp R key other ≡ false) keys
  apart_of key [] none = tt
  apart_of key (other ∷ keys) none = let parts = both_false _ _ none in (parts.0, apart_of key keys parts.1)
    where
      both_false : (a b : Bool) → (a || b) ≡ false → (a ≡ false) × (b ≡ false)
      both_false true b none = absurd (true≢false none)
      both_false false b none = (refl, none)

  entries_permuted : (keys : List K) → IsDistinct (eq_by_cmp R) keys → IsPermutation (marked keys) (fin.entries (fin.from_entries {R = R} (marked keys)))
  unfolding IsDistinct
  entries_permuted [] distinct = subst (IsPermutation []) (sym (none_of_length _ (sym (len-entries (fin.empty {R = R})) ∙ len-empty R (Unit {0})))) (IsPermutation-refl [])
  entries_permuted (key ∷ keys) distinct =
      let none : list_any (eq_by_cmp R key) (in_order R keys) ≡ false = any_in_order total key keys ∙ keys_apart key keys distinct.0 in
      subst (IsPermutation (marked (key ∷ keys))) (sym (entries-insert total (fin.from_entries (marked keys)) key (tt {0})))
      (IsPermutation-trans _ _ _ (IsPermutation-cons (key, tt {0}) _ _ (entries_permuted keys distinct.1)) (put_permutes key _ (apart_of key (in_order R keys) none)))

  -- keys that differ only change places
  pub permuted_in_order : (keys : List K) → IsDistinct (eq_by_cmp R) keys → IsPermutation keys (in_order R keys)
  permuted_in_order keys distinct = subst (λ ks. IsPermutation ks (in_order R keys)) (keys_of_marked keys) (IsPermutation-map (λ (e : K × Unit {0}). e.0) _ _ (entries_permuted keys distinct))
