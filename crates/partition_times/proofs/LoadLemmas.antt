-- The queue of shares gives the one that has least.
use Rattle.std.proofs.Common.{◌≡◌, ◌≢◌, ◌⊎◌, inl, inr, ℕ, zero, suc, ◌+◌, ◌*◌, ◌^◌, ◌<◌, ◌≤◌, ◌++◌, true, false, List, [], ◌∷◌, length, get_or, replicate, refl, sym, ◌∙◌, ap, ap₂, subst, arith, add-one, unwrap_or}
use Rattle.std.proofs.lemmas.Bool.Decides.{nat_tests}
use Rattle.std.proofs.lemmas.Bool.{cases_lt}
use Rattle.std.specs.List.{AllByRecursion, list_any}
use Rattle.std.proofs.lemmas.Cmp.{ranked}
use Rattle.std.specs.Ordering.{nat_cmp, ordering_then, match_ordering}
use Rattle.std.specs.declared.cmp.Ordering.{Ordering}
use Rattle.std.specs.declared.cmp.Ordering.TheVariants.{Less, Equal, Greater}
use Rattle.std.specs.FinMap.{nat_cmp-IsAntisymmetric}
use Rattle.std.specs.BTreeSet.{insert_key}
use Rattle.std.proofs.lemmas.List.{get_or_default, get_or-set_same, get_or-set_other, length-set, length-replicate, length-append}
use Rattle.std.proofs.lemmas.List.Folds.{list_any_at, list_any_none}
use Rattle.std.proofs.lemmas.List.Sums.{sum_by-append}
use Rattle.partition_times.specs.Shares.{Ids, Times, known_time, has_less, least_share, with_group}
use Rattle.partition_times.specs.Loads.{load_at, load_cmp, Has, IsLoad, IsQueue}
use Rattle.partition_times.specs.declared.shares.Load.{Load}

first_less : (m n : ℕ) (o : Ordering) → ordering_then (nat_cmp m n) o ≡ Less → (m < n) ⊎ ((m ≡ n) × (o ≡ Less))
first_less m n o is = by_order (nat_cmp m n) refl is
  where
    by_order : (r : Ordering) → r ≡ nat_cmp m n → ordering_then r o ≡ Less → (m < n) ⊎ ((m ≡ n) × (o ≡ Less))
    by_order Less e is = inl (ranked m n Less e)
    by_order Equal e is = inr (ranked m n Equal e, is)
    by_order Greater e is = cc

less : (m n : ℕ) → nat_cmp m n ≡ Less → m < n
less m n is = ranked m n Less (sym is)

-- what comes first in the queue has less, or as much and stands further in front
comes_first : (a b : Load) → load_cmp a b ≡ Less → (a.time < b.time) ⊎ ((a.time ≡ b.time) × ((a.count < b.count) ⊎ ((a.count ≡ b.count) × (a.index < b.index))))
comes_first a b is = elim (first_less a.time b.time _ is) [
  | inl time ↦ inl time
  | inr (time, rest) ↦ inr (
    time,
    elim (first_less a.count b.count _ rest) [
      | inl count ↦ inl count
      | inr (count, index) ↦ inr (count, less a.index b.index index)
    ],
  )
]

then_equal : (a b : Ordering) → ordering_then a b ≡ Equal → (a ≡ Equal) × (b ≡ Equal)
then_equal Less b is = cc
then_equal Equal b is = (refl, is)
then_equal Greater b is = cc

load_exact : (a b : Load) → load_cmp a b ≡ Equal → a ≡ b
load_exact a b is =
    let first = then_equal (nat_cmp a.time b.time) _ is in
    let second = then_equal (nat_cmp a.count b.count) _ first.1 in
    let time = nat_cmp-IsAntisymmetric a.time b.time first.0 in
    let count = nat_cmp-IsAntisymmetric a.count b.count second.0 in
    let index = nat_cmp-IsAntisymmetric a.index b.index second.1 in
    λ i. record { time = time i; count = count i; index = index i }

-- a load comes into the queue
has_inserted : (queue : List Load) (load : Load) → Has (insert_key load_cmp queue load) load
has_inserted [] load = inl refl
has_inserted (first ∷ queue) load =
    elim (load_cmp load first) as (λ order. load_cmp load first ≡ order → Has (match_ordering order (load ∷ first ∷ queue) (first ∷ queue) (first ∷ insert_key load_cmp queue load)) load) [
      | Less ↦ λ is. inl refl
      | Equal ↦ λ is. inl (sym (load_exact load first is))
      | Greater ↦ λ is. inr (has_inserted queue load)
    ] refl

-- and the others stay
still_has : (queue : List Load) (load other : Load) → Has queue other → Has (insert_key load_cmp queue load) other
still_has [] load other has = absurd has
still_has (first ∷ queue) load other has =
    elim (load_cmp load first) as (λ order. Has (match_ordering order (load ∷ first ∷ queue) (first ∷ queue) (first ∷ insert_key load_cmp queue load)) other) [
      | Less ↦ inr has
      | Equal ↦ has
      | Greater ↦ elim has [ inl is ↦ inl is | inr later ↦ inr (still_has queue load other later) ]
    ]

all_inserted : (P : Load → Type 0) (queue : List Load) (load : Load) → P load → AllByRecursion P queue → AllByRecursion P (insert_key load_cmp queue load)
all_inserted P [] load holds all = (holds, tt)
all_inserted P (first ∷ queue) load holds all =
    elim (load_cmp load first) as (λ order. AllByRecursion P (match_ordering order (load ∷ first ∷ queue) (first ∷ queue) (first ∷ insert_key load_cmp queue load))) [
      | Less ↦ (holds, all)
      | Equal ↦ all
      | Greater ↦ (all.0, all_inserted P queue load holds all.1)
    ]

all_has : (P : Load → Type 0) (queue : List Load) (load : Load) → AllByRecursion P queue → Has queue load → P load
all_has P [] load all has = absurd has
all_has P (first ∷ queue) load all (inl is) = subst P is all.0
all_has P (first ∷ queue) load all (inr has) = all_has P queue load all.1 has

all_both : (P Q R : Load → Type 0) → ((load : Load) → P load → Q load → R load) → (queue : List Load) → AllByRecursion P queue → AllByRecursion Q queue → AllByRecursion R queue
all_both P Q R gives [] all also = tt
all_both P Q R gives (first ∷ queue) all also = (gives first all.0 also.0, all_both P Q R gives queue all.1 also.1)

module _ (times : Times) where
  -- the share that has less than each before it, and than which none behind it has less
  least_is : (shares : List Ids) (index : ℕ) → index < length shares
      → ((k : ℕ) → k < index → has_less times (get_or shares index []) (get_or shares k []) ≡ true)
      → ((k : ℕ) → index < k → k < length shares → has_less times (get_or shares k []) (get_or shares index []) ≡ false)
      → least_share times shares ≡ index
  least_is [] index below before after = absurd (omega arith)
  least_is (share ∷ shares) zero below before after =
      let none : list_any (λ other. has_less times other share) shares ≡ false =
      list_any_none (λ other. has_less times other share) shares (λ k d in_range. rw (get_or_default shares k d [] in_range) (after (suc k) (omega arith) (omega arith))) in
      rw none refl
  least_is (share ∷ shares) (suc index) below before after =
      let some : list_any (λ other. has_less times other share) shares ≡ true =
      list_any_at (λ other. has_less times other share) shares index [] (omega arith) (before zero (omega arith)) in
      rw some (ap suc (least_is shares index (omega arith) (λ k less. before (suc k) (omega arith)) (λ k more in_range. after (suc k) (omega arith) (omega arith))))

  less_before : (a b : Ids) (i j : ℕ) → j < i → ((known_time times a < known_time times b) ⊎ ((known_time times a ≡ known_time times b) × ((length a < length b) ⊎ ((length a ≡ length b) × (i < j))))) → has_less times a b ≡ true
  less_before a b i j order (inl time) = grind (arith, nat_tests)
  less_before a b i j order (inr (time, inl count)) = grind (arith, nat_tests)
  less_before a b i j order (inr (time, inr (count, index))) = absurd (omega arith)

  none_behind : (a b : Ids) (i j : ℕ) → ((known_time times a < known_time times b) ⊎ ((known_time times a ≡ known_time times b) × ((length a < length b) ⊎ ((length a ≡ length b) × (i < j))))) → has_less times b a ≡ false
  none_behind a b i j (inl time) = grind (arith, nat_tests)
  none_behind a b i j (inr (time, inl count)) = grind (arith, nat_tests)
  none_behind a b i j (inr (time, inr (count, index))) = grind (arith, nat_tests)

  module _ (shares : List Ids) (least : Load) (rest : List Load) (queue : IsQueue times shares (least ∷ rest)) (above : AllByRecursion (λ load. load_cmp least load ≡ Less) rest) where
    -- the load of another share stands behind the first
    in_rest : (k : ℕ) → k < length shares → k ≢ least.index → Has rest (load_at times shares k)
    in_rest k below other = elim (queue.whole k below) [
      | inl is ↦ absurd (other (sym (ap (λ (load : Load). load.index) is)))
      | inr has ↦ has
    ]

    first_of : (k : ℕ) → k < length shares → k ≢ least.index → (known_time times (get_or shares least.index []) < known_time times (get_or shares k [])) ⊎ ((known_time times (get_or shares least.index []) ≡ known_time times (get_or shares k [])) × ((length (get_or shares least.index []) < length (get_or shares k [])) ⊎ ((length (get_or shares least.index []) ≡ length (get_or shares k [])) × (least.index < k))))
    first_of k below other =
        let is : load_cmp least (load_at times shares k) ≡ Less = all_has (λ load. load_cmp least load ≡ Less) rest (load_at times shares k) above (in_rest k below other) in
        comes_first (load_at times shares least.index) (load_at times shares k) (subst (λ load. load_cmp load (load_at times shares k) ≡ Less) queue.each.0.is is)

    pub first_is_least : least_share times shares ≡ least.index
    first_is_least = least_is shares least.index queue.each.0.in_range
        (λ k less. less_before (get_or shares least.index []) (get_or shares k []) least.index k less (first_of k (omega (arith, queue.each.0.in_range)) (λ same. omega arith)))
        (λ k more below. none_behind (get_or shares least.index []) (get_or shares k []) least.index k (first_of k below (λ same. omega arith)))

    -- the load of another share is as before when ids are given to the first
    same_load : (ids : Ids) (k : ℕ) → k ≢ least.index → load_at times (with_group shares least.index ids) k ≡ load_at times shares k
    same_load ids k other =
        let same : get_or (with_group shares least.index ids) k [] ≡ get_or shares k [] = get_or-set_other shares least.index k (get_or shares least.index [] ++ ids) [] other in
        rw same refl

    -- no load behind the first is that of the same share
    other_share : (load : Load) → IsLoad times shares load → load_cmp least load ≡ Less → load.index ≢ least.index
    other_share load is behind same =
        let equal : load ≡ least = is.is ∙ ap (load_at times shares) same ∙ sym queue.each.0.is in
        itself least (subst (λ l. load_cmp least l ≡ Less) equal behind)
      where
        itself : (load : Load) → load_cmp load load ≡ Less → ⊥
        itself load is = elim (comes_first load load is) [
          | inl time ↦ omega arith
          | inr (time, inl count) ↦ omega arith
          | inr (time, inr (count, index)) ↦ omega arith
        ]

    pub after_given : (ids : Ids) (load : Load) → load ≡ load_at times (with_group shares least.index ids) least.index → load.time ≤ load.count * 2 ^ 64 → IsQueue times (with_group shares least.index ids) (insert_key load_cmp rest load)
    after_given ids load is small =
        let in_range : least.index < length shares = queue.each.0.in_range in
        let long : length (with_group shares least.index ids) ≡ length shares = length-set shares least.index (get_or shares least.index [] ++ ids) in
        let index : load.index ≡ least.index = ap (λ (l : Load). l.index) is in
        record {
          each = all_inserted (IsLoad times (with_group shares least.index ids)) rest load
              (record { in_range = omega arith; is = is ∙ ap (load_at times (with_group shares least.index ids)) (sym index); small = small })
              (all_both (IsLoad times shares) (λ l. load_cmp least l ≡ Less) (IsLoad times (with_group shares least.index ids))
              (λ l one behind. record {
                in_range = omega (arith, one.in_range);
                is = one.is ∙ sym (same_load ids l.index (other_share l one behind));
                small = one.small;
              }) rest queue.each.1 above);
          whole = λ k below. elim (nat_cases k least.index) [
            | inl same ↦ subst (λ n. Has (insert_key load_cmp rest load) (load_at times (with_group shares least.index ids) n)) (sym same) (subst (Has (insert_key load_cmp rest load)) is (has_inserted rest load))
            | inr other ↦ subst (Has (insert_key load_cmp rest load)) (sym (same_load ids k other)) (still_has rest load (load_at times shares k) (in_rest k (omega arith) other))
          ];
        }
      where
        nat_cases : (a b : ℕ) → (a ≡ b) ⊎ (a ≢ b)
        nat_cases a b = elim (cases_lt a b) [
          | inl below ↦ inr (λ same. omega arith)
          | inr past ↦ elim (cases_lt b a) [
            | inl above ↦ inr (λ same. omega arith)
            | inr up ↦ inl (omega arith)
          ]
        ]

-- at first each share is empty
abbrev pub empty_shares : ℕ → List Ids
empty_shares workers = replicate workers []

module _ (times : Times) where
  empty_at : (workers k : ℕ) → get_or (empty_shares workers) k [] ≡ []
  empty_at zero k = refl
  empty_at (suc workers) zero = refl
  empty_at (suc workers) (suc k) = empty_at workers k

  empty_load : (workers k : ℕ) → load_at times (empty_shares workers) k ≡ record { time = 0; count = 0; index = k }
  empty_load workers k = rw (empty_at workers k) refl

  pub one_more_share : (workers more : ℕ) (queue : List Load) → more ≡ workers + 1 → IsQueue times (empty_shares workers) queue → IsQueue times (empty_shares more) (insert_key load_cmp queue (record { time = 0; count = 0; index = workers }))
  one_more_share workers more queue is kept =
      let load : Load = record { time = 0; count = 0; index = workers } in
      record {
        each = all_inserted (IsLoad times (empty_shares more)) queue load
            (record { in_range = rw (length-replicate {A = Ids} more []) (omega arith); is = sym (empty_load more workers); small = omega arith })
            (all_weaker (IsLoad times (empty_shares workers)) (IsLoad times (empty_shares more))
            (λ l one. record {
              in_range = rw (length-replicate {A = Ids} more []) (omega (arith, one.in_range, length-replicate {A = Ids} workers []));
              is = one.is ∙ empty_load workers l.index ∙ sym (empty_load more l.index);
              small = one.small;
            }) queue kept.each);
        whole = λ k below. elim (cases_lt k workers) [
          | inl old ↦ subst (Has (insert_key load_cmp queue load)) (empty_load workers k ∙ sym (empty_load more k)) (still_has queue load (load_at times (empty_shares workers) k) (kept.whole k (rw (length-replicate {A = Ids} workers []) old)))
          | inr new ↦ let last : k ≡ workers = omega (arith, length-replicate {A = Ids} more [], below) in
              subst (Has (insert_key load_cmp queue load)) (ap (λ n. record { time = 0; count = 0; index = n }) (sym last) ∙ sym (empty_load more k)) (has_inserted queue load)
        ];
      }
    where
      all_weaker : (P Q : Load → Type 0) → ((load : Load) → P load → Q load) → (queue : List Load) → AllByRecursion P queue → AllByRecursion Q queue
      all_weaker P Q gives [] all = tt
      all_weaker P Q gives (first ∷ queue) all = (gives first all.0, all_weaker P Q gives queue all.1)

  pub no_share : IsQueue times (empty_shares 0) []
  no_share = record { each = tt; whole = λ k below. absurd (omega arith) }

pub replicate_more : (workers : ℕ) → empty_shares workers ++ [] ∷ [] ≡ empty_shares (workers + 1)
replicate_more workers = rw add-one (behind workers)
  where
    behind : (workers : ℕ) → empty_shares workers ++ [] ∷ [] ≡ empty_shares (suc workers)
    behind zero = refl
    behind (suc workers) = ap (λ shares. [] ∷ shares) (behind workers)

-- the sum of the times fits
pub fits_128 : (times : Times) (shares : List Ids) (least : Load) (ids now : Ids) (time : ℕ) → IsLoad times shares least → now ≡ get_or shares least.index [] ++ ids → length now < 2 ^ 64 → time ≤ length ids * 2 ^ 64 → least.time + time < 2 ^ 128
fits_128 times shares least ids now time load grown long small =
    let whole : length now ≡ length (get_or shares least.index []) + length ids = ap length grown ∙ length-append (get_or shares least.index []) ids in
    let count : least.count ≡ length (get_or shares least.index []) = ap (λ (l : Load). l.count) load.is in
    omega (arith, load.small)

-- the load of the share that has grown
pub new_load : (times : Times) (shares : List Ids) (least : Load) (ids now : Ids) (time : ℕ) → IsLoad times shares least → now ≡ get_or shares least.index [] ++ ids → time ≡ known_time times ids → record { time = least.time + time; count = length now; index = least.index } ≡ load_at times (with_group shares least.index ids) least.index
new_load times shares least ids now time load grown known =
    let there : get_or (with_group shares least.index ids) least.index [] ≡ get_or shares least.index [] ++ ids = get_or-set_same shares least.index (get_or shares least.index [] ++ ids) [] load.in_range in
    let sum : least.time + time ≡ known_time times (get_or shares least.index [] ++ ids) =
    ap₂ ◌+◌ (ap (λ (l : Load). l.time) load.is) known ∙ sym (sum_by-append (λ id. unwrap_or (times id) 0) (get_or shares least.index []) ids) in
    rw (there, sum, grown) refl

-- and its time fits its count
pub new_small : (times : Times) (shares : List Ids) (least : Load) (ids now : Ids) (time : ℕ) → IsLoad times shares least → now ≡ get_or shares least.index [] ++ ids → time ≤ length ids * 2 ^ 64 → least.time + time ≤ length now * 2 ^ 64
new_small times shares least ids now time load grown small =
    let whole : length now ≡ length (get_or shares least.index []) + length ids = ap length grown ∙ length-append (get_or shares least.index []) ids in
    let count : least.count ≡ length (get_or shares least.index []) = ap (λ (l : Load). l.count) load.is in
    omega (arith, load.small)
