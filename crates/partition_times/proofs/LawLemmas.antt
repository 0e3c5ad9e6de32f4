-- What the shares keep of the ids.
use Rattle.std.proofs.Common.{◌≡◌, ℕ, zero, suc, ◌+◌, ◌<◌, ◌++◌, ◌==◌, ◌||◌, not, Bool, true, false, cond, List, [], ◌∷◌, map, length, get_or, replicate, refl, sym, ◌∙◌, ap, ap₂, subst, arith, true≢false}
use Rattle.std.specs.List.{AllByRecursion, IsDistinct, filter, list_any, sum_by, count_by}
use Rattle.std.specs.List.Sorted.{IsPermutation}
use Rattle.std.specs.Ordering.{nat_cmp, bool_cmp, eq_by_cmp, is_eq, ordering_then}
use Rattle.std.specs.Cmp.{IsEquivalence}
use Rattle.std.specs.Cmp.Lexicographic.{slice_cmp}
use Rattle.std.specs.Str.{bytes_eq}
use Rattle.std.specs.declared.cmp.Ordering.{Ordering}
use Rattle.std.specs.declared.cmp.Ordering.TheVariants.{Less, Equal, Greater}
use Rattle.std.proofs.lemmas.Cmp.{nat_list_cmp_total, nat_list_eq_equiv}
use Rattle.std.proofs.lemmas.List.{length-replicate}
use Rattle.std.proofs.lemmas.List.Elements.{recursion_from_All}
use Rattle.std.proofs.lemmas.List.Folds.{list_any_at}
use Rattle.std.proofs.lemmas.List.Sums.{sum_by-append, sum_by-cons}
use Rattle.std.proofs.lemmas.List.Sorted.{IsPermutation-trans, IsPermutation-map, IsPermutation-append_left, IsPermutation-filter_both, sum_by-IsPermutation, list_any-IsPermutation}
use Rattle.std.proofs.lemmas.Map.Keys.{IsDistinct-from_sorted, IsDistinct-IsPermutation}
use Rattle.std.proofs.lemmas.Map.Text.{is_eq-slice_cmp}
use mathlib.Core.Path.{fun_ext}
use Rattle.partition_times.specs.Names.{members, group_names}
use Rattle.partition_times.specs.Kept.{StandsInOne, StandsAsOften}
use Rattle.partition_times.specs.Shares.{Ids, Times, given_to_least, Rank, rank_cmp, rank_of, has_time, ranks, timed_groups, shares_of}
use Rattle.partition_times.proofs.OrderLemmas.{strictly_in_order, permuted_in_order, any_in_order}
use Rattle.partition_times.proofs.RankLemmas.{rank_total}
use Rattle.partition_times.proofs.ShareLemmas.{length-to_least}
use Rattle.partition_times.proofs.SumLemmas.{sum_same, sum_of_parts, stands_once}
use Rattle.partition_times.proofs.DealLemmas.{Deals, deals_to_least, deals_in_turn, deals_append, deals_length, deals_sum, deals_elsewhere, deals_here, no_members}

-- equal names are the same bytes
same_test : eq_by_cmp (slice_cmp nat_cmp) ≡ bytes_eq
same_test = fun_ext (λ a. fun_ext (λ b. is_eq-slice_cmp a b))

name_laws : IsEquivalence bytes_eq
name_laws = nat_list_eq_equiv

-- a list of which each element is made of an earlier one
module _ {X : Type 0} where
  all_filtered : (P : X → Type 0) (p : X → Bool) (xs : List X) → AllByRecursion P xs → AllByRecursion P (filter p xs)
  all_filtered P p [] all = tt
  all_filtered P p (x ∷ xs) all = elim (p x) as (λ b. AllByRecursion P (cond b (x ∷ filter p xs) (filter p xs))) [ true ↦ (all.0, all_filtered P p xs all.1) | false ↦ all_filtered P p xs all.1 ]

  distinct_filtered : (eq : X → X → Bool) (p : X → Bool) (xs : List X) → IsDistinct eq xs → IsDistinct eq (filter p xs)
  unfolding IsDistinct
  distinct_filtered eq p [] distinct = tt
  distinct_filtered eq p (x ∷ xs) distinct = elim (p x) as (λ b. IsDistinct eq (cond b (x ∷ filter p xs) (filter p xs))) [
    | true ↦ (all_filtered (λ y. eq x y ≡ false) p xs distinct.0, distinct_filtered eq p xs distinct.1)
    | false ↦ distinct_filtered eq p xs distinct.1
  ]

not_equal_then : (a b : Ordering) → is_eq b ≡ false → is_eq (ordering_then a b) ≡ false
not_equal_then Less b other = refl
not_equal_then Equal b other = other
not_equal_then Greater b other = refl

module _ (f : List ℕ → Rank) (keeps : (name : List ℕ) → (f name).name ≡ name) where
  rank_differs : (a b : List ℕ) → eq_by_cmp (slice_cmp nat_cmp) a b ≡ false → eq_by_cmp rank_cmp (f a) (f b) ≡ false
  rank_differs a b other = not_equal_then (bool_cmp (f a).partly (f b).partly) (ordering_then (nat_cmp (f b).time (f a).time) (slice_cmp nat_cmp (f a).name (f b).name)) (not_equal_then (nat_cmp (f b).time (f a).time) (slice_cmp nat_cmp (f a).name (f b).name) (ap₂ (λ x y. is_eq (slice_cmp nat_cmp x y)) (keeps a) (keeps b) ∙ other))

  distinct_ranks : (names : List (List ℕ)) → IsDistinct (eq_by_cmp (slice_cmp nat_cmp)) names → IsDistinct (eq_by_cmp rank_cmp) (map f names)
  unfolding IsDistinct
  distinct_ranks [] distinct = tt
  distinct_ranks (name ∷ names) distinct = (others names distinct.0, distinct_ranks names distinct.1)
    where
      others : (names : List (List ℕ)) → AllByRecursion (λ other. eq_by_cmp (slice_cmp nat_cmp) name other ≡ false) names → AllByRecursion (λ other. eq_by_cmp rank_cmp (f name) other ≡ false) (map f names)
      others [] apart = tt
      others (other ∷ names) apart = (rank_differs name other apart.0, others names apart.1)

  names_back : (names : List (List ℕ)) → map (λ (r : Rank). r.name) (map f names) ≡ names
  names_back [] = refl
  names_back (name ∷ names) = ap₂ ◌∷◌ (keeps name) (names_back names)

module _ (times : Times) (name_of : List ℕ → List ℕ) (ids : Ids) where
  abbrev names : List (List ℕ)
  names = group_names name_of ids

  abbrev group : List ℕ → Ids
  group = members name_of ids

  -- the names in the order in which their groups are given
  abbrev pub order : List (List ℕ)
  order = map (λ (r : Rank). r.name) (ranks times group names) ++ filter (λ name. not (has_time times group name)) names

  timed_are : (rs : List Rank) → map (λ (r : Rank). group r.name) rs ≡ map group (map (λ (r : Rank). r.name) rs)
  timed_are [] = refl
  timed_are (r ∷ rs) = ap (λ rest. group r.name ∷ rest) (timed_are rs)

  pub all_deals : (workers : ℕ) → 0 < workers → Deals group (replicate workers []) order (shares_of times name_of ids workers)
  all_deals workers some =
      let start : List Ids = replicate workers [] in
      let long : length start ≡ workers = length-replicate {A = Ids} workers [] in
      let first : Deals group start (map (λ (r : Rank). r.name) (ranks times group names)) (given_to_least times start (timed_groups times group names)) =
      subst (λ gs. Deals group start (map (λ (r : Rank). r.name) (ranks times group names)) (given_to_least times start gs)) (sym (timed_are (ranks times group names))) (deals_to_least group times (map (λ (r : Rank). r.name) (ranks times group names)) start (omega arith)) in
      deals_append group _ _ start _ _ first (deals_in_turn group (filter (λ name. not (has_time times group name)) names) 0 (given_to_least times start (timed_groups times group names)) (omega (arith, length-to_least times start (timed_groups times group names))))

  distinct_by_order : IsDistinct (eq_by_cmp (slice_cmp nat_cmp)) names
  distinct_by_order = IsDistinct-from_sorted (slice_cmp nat_cmp) names (strictly_in_order (slice_cmp nat_cmp) (map name_of ids))

  pub distinct_names : IsDistinct bytes_eq names
  distinct_names = subst (λ e. IsDistinct e names) same_test distinct_by_order

  pub permuted : IsPermutation names order
  permuted =
      let timed = filter (has_time times group) names in
      let rank = λ (name : List ℕ). rank_of times (group name) name in
      let moved : IsPermutation (map rank timed) (ranks times group names) = permuted_in_order rank_total (map rank timed) (distinct_ranks rank (λ name. refl) timed (distinct_filtered (eq_by_cmp (slice_cmp nat_cmp)) (has_time times group) names distinct_by_order)) in
      let named : IsPermutation timed (map (λ (r : Rank). r.name) (ranks times group names)) = subst (λ ns. IsPermutation ns (map (λ (r : Rank). r.name) (ranks times group names))) (names_back rank (λ name. refl) timed) (IsPermutation-map (λ (r : Rank). r.name) _ _ moved) in
      IsPermutation-trans _ _ _ (IsPermutation-filter_both (has_time times group) (λ name. not (has_time times group name)) (λ name. refl) names)
      (IsPermutation-append_left (filter (λ name. not (has_time times group name)) names) _ _ named)

  any_name : (name : List ℕ) → list_any (bytes_eq name) names ≡ list_any (λ id. bytes_eq name (name_of id)) ids
  any_name name = ap (λ e. list_any (e name) names) (sym same_test) ∙ any_in_order nat_list_cmp_total name (map name_of ids) ∙ through ids
    where
      through : (ids : Ids) → list_any (eq_by_cmp (slice_cmp nat_cmp) name) (map name_of ids) ≡ list_any (λ id. bytes_eq name (name_of id)) ids
      through [] = refl
      through (id ∷ ids) = ap₂ ◌||◌ (is_eq-slice_cmp name (name_of id)) (through ids)

  empty_at : (workers k : ℕ) → get_or (replicate {A = Ids} workers []) k [] ≡ []
  empty_at zero k = refl
  empty_at (suc workers) zero = refl
  empty_at (suc workers) (suc k) = empty_at workers k

  pub one_each : (workers : ℕ) → 0 < workers → length (shares_of times name_of ids workers) ≡ workers
  one_each workers some = deals_length group order (replicate workers []) (shares_of times name_of ids workers) (all_deals workers some) ∙ length-replicate {A = Ids} workers []

  pub stands_in_one : (workers : ℕ) → 0 < workers → (name : List ℕ) → StandsInOne name_of ids (shares_of times name_of ids workers) name
  stands_in_one workers some name =
      let start : List Ids = replicate workers [] in
      let shares = shares_of times name_of ids workers in
      let none : (k : ℕ) → members name_of (get_or start k []) name ≡ [] = λ k. ap (λ share. members name_of share name) (empty_at workers k) in
      let moved : list_any (bytes_eq name) names ≡ list_any (bytes_eq name) order = list_any-IsPermutation (bytes_eq name) names order permuted in
      let apart : IsDistinct bytes_eq order = IsDistinct-IsPermutation bytes_eq name_laws.symm names order permuted distinct_names in
      elim (list_any (bytes_eq name) names) as (λ b. list_any (bytes_eq name) names ≡ b → StandsInOne name_of ids shares name) [
        | true ↦ λ is. deals_here name_of ids name order start shares (all_deals workers some) apart (sym moved ∙ is) none
        | false ↦ λ is.
            let empty : members name_of ids name ≡ [] = no_members name_of name ids (sym (any_name name) ∙ is) in
            (0, omega (arith, one_each workers some), λ k. deals_elsewhere name_of ids name order start shares (all_deals workers some) (apart_of name order (sym moved ∙ is)) k ∙ none k ∙ sym (ap (λ m. cond (k == 0) m []) empty ∙ nothing (k == 0)))
      ] refl
    where
      nothing : (b : Bool) → cond {A = Ids} b [] [] ≡ []
      nothing true = refl
      nothing false = refl

      apart_of : (key : List ℕ) (keys : List (List ℕ)) → list_any (bytes_eq key) keys ≡ false → AllByRecursion (λ other. bytes_eq key other ≡ false) keys
      apart_of key [] none = tt
      apart_of key (other ∷ keys) none = elim (bytes_eq key other) as (λ b. bytes_eq key other ≡ b → (b || list_any (bytes_eq key) keys) ≡ false → AllByRecursion (λ o. bytes_eq key o ≡ false) (other ∷ keys)) [
        | true ↦ λ is none. absurd (true≢false none)
        | false ↦ λ is none. (is, apart_of key keys none)
      ] refl none

  -- each id is in one group
  in_one_group : AllByRecursion (λ id. count_by (λ name. bytes_eq name (name_of id)) names ≡ 1) ids
  in_one_group = recursion_from_All _ ids (λ k d below.
      let name = name_of (get_or ids k d) in
      let some : list_any (bytes_eq name) names ≡ true = any_name name ∙ list_any_at (λ id. bytes_eq name (name_of id)) ids k d below (name_laws.refl name) in
      sum_same (λ other. cond (bytes_eq other name) 1 0) (λ other. cond (bytes_eq name other) 1 0) names (λ other. ap (λ b. cond b 1 0) (name_laws.symm other name)) ∙ stands_once bytes_eq name_laws name names distinct_names some)

  -- what adds up over the ids adds up over the shares
  pub sum_of_shares : (h : List ℕ → ℕ) (workers : ℕ) → 0 < workers → sum_by (λ share. sum_by h share) (shares_of times name_of ids workers) ≡ sum_by h ids
  sum_of_shares h workers some =
      deals_sum group (λ share. sum_by h share) (λ a b. sum_by-append h a b) order (replicate workers []) (shares_of times name_of ids workers) (all_deals workers some)
      ∙ ap₂ ◌+◌ (nothing workers) (sum_by-IsPermutation (λ name. sum_by h (group name)) names order permuted ∙ sum_of_parts (λ name id. bytes_eq name (name_of id)) h names ids in_one_group)
      ∙ (let itself : 0 + sum_by h ids ≡ sum_by h ids = omega arith in itself)
    where
      nothing : (workers : ℕ) → sum_by (λ share. sum_by h share) (replicate {A = Ids} workers []) ≡ 0
      nothing zero = refl
      nothing (suc workers) = omega (arith, sum_by-cons (λ (share : Ids). sum_by h share) [] (replicate {A = Ids} workers []), nothing workers)

  pub stands_as_often : (workers : ℕ) → 0 < workers → (id : List ℕ) → StandsAsOften ids (shares_of times name_of ids workers) id
  stands_as_often workers some id = sum_of_shares (λ other. cond (bytes_eq id other) 1 0) workers some
