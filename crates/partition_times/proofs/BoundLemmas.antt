-- The largest share against the best one: Graham's bound.
use Rattle.std.proofs.Common.{◌≡◌, inl, inr, ℕ, zero, suc, ◌+◌, ◌-◌, ◌*◌, ◌%◌, ◌<◌, ◌≤◌, ◌++◌, ◌==◌, ◌||◌, not, Bool, true, false, cond, List, [], ◌∷◌, map, length, get_or, set, replicate, Option, None, Some, is_some, unwrap_or, refl, sym, ◌∙◌, ap, ap₂, subst, arith, true≢false, max}
use Rattle.std.specs.List.{AllByRecursion, filter, list_any, sum_by, count_by, fold, range_with_len}
use Rattle.std.proofs.lemmas.Bool.{cases_lt}
use Rattle.std.proofs.lemmas.Bool.Decides.{nat_tests}
use Rattle.std.proofs.lemmas.List.{length-replicate}
use Rattle.std.proofs.lemmas.List.Sums.{sum_by-set, sum_by-append, sum_by-cons}
use Rattle.std.proofs.lemmas.List.Elements.{recursion_from_All, All-from_recursion}
use Rattle.std.proofs.lemmas.List.Sorted.{All-permutation}
use Rattle.std.specs.Str.{bytes_eq}
use Rattle.std.proofs.lemmas.Slice.Eq.{bytes_eq-Decides}
use Rattle.std.proofs.lemmas.Nat.{mod_below}
use Rattle.std.proofs.lemmas.List.FromFn.{get_or-range_with_len, length-range_with_len}
use Rattle.std.proofs.Math.Nat.{mul-le-mul_left}
use Rattle.partition_times.specs.Names.{members, group_names}
use Rattle.partition_times.specs.Shares.{Ids, Times, known_time, is_some_known, has_less, least_share, with_group, given_to_least, given_in_turn, Rank, has_time, ranks, timed_groups, untimed_groups, shares_of}
use Rattle.partition_times.specs.Bound.{largest_share, longest_group, assigned_share, division, IsWithinBound, IsNearBest}
use Rattle.partition_times.proofs.ShareLemmas.{length-given, length-to_least}
use Rattle.partition_times.proofs.SumLemmas.{sum_of_parts}
use Rattle.partition_times.proofs.DealLemmas.{least_below, equal_itself}
use Rattle.partition_times.proofs.LawLemmas.{order, permuted, sum_of_shares}

-- ---- the largest of some numbers

from_first : (a : ℕ) (xs : List ℕ) → a ≤ fold max a xs
from_first a [] = omega arith
from_first a (x ∷ xs) = omega (arith, from_first (max a x) xs)

each_below : (a : ℕ) (xs : List ℕ) → AllByRecursion (λ x. x ≤ fold max a xs) xs
each_below a [] = tt
each_below a (x ∷ xs) = (omega (arith, from_first (max a x) xs), each_below (max a x) xs)

largest_below : (c a : ℕ) (xs : List ℕ) → a ≤ c → AllByRecursion (λ x. x ≤ c) xs → fold max a xs ≤ c
largest_below c a [] first all = first
largest_below c a (x ∷ xs) first all = largest_below c (max a x) xs (omega (arith, all.0)) all.1

times_largest : (m c a : ℕ) (xs : List ℕ) → m * a ≤ c → AllByRecursion (λ x. m * x ≤ c) xs → m * fold max a xs ≤ c
times_largest m c a [] first all = first
times_largest m c a (x ∷ xs) first all = times_largest m c (max a x) xs (elim (cases_lt a x) [
  | inl below ↦ let is : max a x ≡ x = omega arith in rw is all.0
  | inr past ↦ let is : max a x ≡ a = omega arith in rw is first
]) all.1

module _ {X : Type 0} where
  all_at : (P : X → Type 0) (xs : List X) (i : ℕ) (d : X) → i < length xs → AllByRecursion P xs → P (get_or xs i d)
  all_at P xs i d below all = All-from_recursion P xs all i d below

  all_set : (P : X → Type 0) (xs : List X) (i : ℕ) (y : X) → P y → AllByRecursion P xs → AllByRecursion P (set xs i y)
  all_set P [] i y one all = tt
  all_set P (x ∷ xs) zero y one all = (one, all.1)
  all_set P (x ∷ xs) (suc i) y one all = (all.0, all_set P xs i y one all.1)

  all_weaker : (P Q : X → Type 0) → ((x : X) → P x → Q x) → (xs : List X) → AllByRecursion P xs → AllByRecursion Q xs
  all_weaker P Q gives [] all = tt
  all_weaker P Q gives (x ∷ xs) all = (gives x all.0, all_weaker P Q gives xs all.1)

  all_front : (P : X → Type 0) (xs ys : List X) → AllByRecursion P (xs ++ ys) → AllByRecursion P xs
  all_front P [] ys all = tt
  all_front P (x ∷ xs) ys all = (all.0, all_front P xs ys all.1)

  all_mapped : {Y : Type 0} (f : X → Y) (P : Y → Type 0) (xs : List X) → AllByRecursion (λ x. P (f x)) xs → AllByRecursion P (map f xs)
  all_mapped f P [] all = tt
  all_mapped f P (x ∷ xs) all = (all.0, all_mapped f P xs all.1)

  all_of_map : {Y : Type 0} (f : X → Y) (P : Y → Type 0) (xs : List X) → AllByRecursion P (map f xs) → AllByRecursion (λ x. P (f x)) xs
  all_of_map f P [] all = tt
  all_of_map f P (x ∷ xs) all = (all.0, all_of_map f P xs all.1)

  -- a sum of numbers that are each at least c, and of such that are at most c
  sum_at_least : (f : X → ℕ) (c : ℕ) (xs : List X) → AllByRecursion (λ x. c ≤ f x) xs → length xs * c ≤ sum_by f xs
  sum_at_least f c [] all = omega arith
  sum_at_least f c (x ∷ xs) all = omega (arith, all.0, sum_by-cons f x xs, sum_at_least f c xs all.1)

  sum_at_most : (f : X → ℕ) (c : ℕ) (xs : List X) → AllByRecursion (λ x. f x ≤ c) xs → sum_by f xs ≤ length xs * c
  sum_at_most f c [] all = omega arith
  sum_at_most f c (x ∷ xs) all = omega (arith, all.0, sum_by-cons f x xs, sum_at_most f c xs all.1)

  sum_of_some : (h : X → ℕ) (p q : X → Bool) → ((x : X) → p x ≡ true → q x ≡ true) → (xs : List X) → sum_by h (filter p xs) ≤ sum_by h (filter q xs)
  sum_of_some h p q also [] = omega arith
  sum_of_some h p q also (x ∷ xs) = by_cases (sum_of_some h p q also xs) (p x) (q x) refl refl
    where
      by_cases : sum_by h (filter p xs) ≤ sum_by h (filter q xs) → (a b : Bool) → p x ≡ a → q x ≡ b → sum_by h (cond (p x) (x ∷ filter p xs) (filter p xs)) ≤ sum_by h (cond (q x) (x ∷ filter q xs) (filter q xs))
      by_cases rest true true yes_p yes_q = rw (yes_p, yes_q) (omega (arith, sum_by-cons h x (filter p xs), sum_by-cons h x (filter q xs)))
      by_cases rest true false yes_p no_q = absurd (true≢false (sym (also x yes_p) ∙ no_q))
      by_cases rest false true no_p yes_q = rw (no_p, yes_q) (omega (arith, sum_by-cons h x (filter q xs)))
      by_cases rest false false no_p no_q = rw (no_p, no_q) rest

-- ---- the shares

module _ (times : Times) where
  time : Ids → ℕ
  time ids = known_time times ids

  not_less : (a b : Ids) → has_less times a b ≡ false → known_time times b ≤ known_time times a
  not_less a b is = grind (arith, nat_tests)

  at_most : (a b : Ids) → has_less times a b ≡ true → known_time times a ≤ known_time times b
  at_most a b is = grind (arith, nat_tests)

  none_less : (share : Ids) (others : List Ids) → list_any (λ o. has_less times o share) others ≡ false → AllByRecursion (λ o. known_time times share ≤ known_time times o) others
  none_less share [] none = tt
  none_less share (other ∷ others) none = elim (has_less times other share) as (λ b. has_less times other share ≡ b → (b || list_any (λ o. has_less times o share) others) ≡ false → AllByRecursion (λ o. known_time times share ≤ known_time times o) (other ∷ others)) [
    | true ↦ λ is none. absurd (true≢false none)
    | false ↦ λ is none. (not_less other share is, none_less share others none)
  ] refl none

  some_less : (c : ℕ) (share : Ids) (others : List Ids) → list_any (λ o. has_less times o share) others ≡ true → AllByRecursion (λ o. c ≤ known_time times o) others → c ≤ known_time times share
  some_less c share [] some all = absurd (true≢false (sym some))
  some_less c share (other ∷ others) some all = elim (has_less times other share) as (λ b. has_less times other share ≡ b → (b || list_any (λ o. has_less times o share) others) ≡ true → c ≤ known_time times share) [
    | true ↦ λ is some. omega (arith, all.0, at_most other share is)
    | false ↦ λ is some. some_less c share others some all.1
  ] refl some

  -- no share has less time than the least
  least_time : (shares : List Ids) → AllByRecursion (λ share. known_time times (get_or shares (least_share times shares) []) ≤ known_time times share) shares
  least_time [] = tt
  least_time (share ∷ shares) =
      elim (list_any (λ o. has_less times o share) shares) as (λ b. list_any (λ o. has_less times o share) shares ≡ b → AllByRecursion (λ s. known_time times (get_or (share ∷ shares) (cond b (suc (least_share times shares)) 0) []) ≤ known_time times s) (share ∷ shares)) [
        | true ↦ λ is. (some_less (known_time times (get_or shares (least_share times shares) [])) share shares is (least_time shares), least_time shares)
        | false ↦ λ is. (omega arith, none_less share shares is)
      ] refl

  -- each share is within the bound, where there are k shares more and no group is longer than `longest`
  abbrev AreBounded : ℕ → ℕ → List Ids → Type 0
  AreBounded k longest shares = AllByRecursion (λ share. (k + 1) * known_time times share ≤ sum_by (known_time times) shares + k * longest) shares

  time_grown : (shares : List Ids) (index : ℕ) (group : Ids) → index < length shares → sum_by (known_time times) (with_group shares index group) ≡ sum_by (known_time times) shares + known_time times group
  time_grown shares index group below =
      omega (arith, sum_by-set (known_time times) shares index (get_or shares index [] ++ group) [] below, sum_by-append (λ id. unwrap_or (times id) 0) (get_or shares index []) group)

  least_bounded : (k longest : ℕ) (shares : List Ids) (group : Ids) → length shares ≡ k + 1 → known_time times group ≤ longest → AreBounded k longest shares → AreBounded k longest (with_group shares (least_share times shares) group)
  least_bounded k longest shares group long short bounded =
      let index = least_share times shares in
      let below : index < length shares = least_below times shares (omega arith) in
      let grown = time_grown shares index group below in
      let mean : (k + 1) * known_time times (get_or shares index []) ≤ sum_by (known_time times) shares = subst (λ n. n * known_time times (get_or shares index []) ≤ sum_by (known_time times) shares) long (sum_at_least (known_time times) (known_time times (get_or shares index [])) shares (least_time shares)) in
      let others : k * known_time times group ≤ k * longest = mul-le-mul_left k short in
      let whole : known_time times (get_or shares index [] ++ group) ≡ known_time times (get_or shares index []) + known_time times group = sum_by-append (λ id. unwrap_or (times id) 0) (get_or shares index []) group in
      all_set (λ share. (k + 1) * known_time times share ≤ sum_by (known_time times) (with_group shares index group) + k * longest) shares index (get_or shares index [] ++ group)
      (rw (whole, grown) (omega (arith, mean, others)))
      (all_weaker (λ share. (k + 1) * known_time times share ≤ sum_by (known_time times) shares + k * longest) (λ share. (k + 1) * known_time times share ≤ sum_by (known_time times) (with_group shares index group) + k * longest)
      (λ share within. rw grown (omega (arith, within))) shares bounded)

  pub to_least_bounded : (k longest : ℕ) (groups shares : List Ids) → length shares ≡ k + 1 → AllByRecursion (λ group. known_time times group ≤ longest) groups → AreBounded k longest shares → AreBounded k longest (given_to_least times shares groups)
  to_least_bounded k longest [] shares long short bounded = bounded
  to_least_bounded k longest (group ∷ groups) shares long short bounded =
      to_least_bounded k longest groups (with_group shares (least_share times shares) group) (length-given shares (least_share times shares) group ∙ long) short.1 (least_bounded k longest shares group long short.0 bounded)

  -- groups without a known time change no time
  no_time : (group : Ids) → is_some_known times group ≡ false → known_time times group ≡ 0
  no_time [] none = refl
  no_time (id ∷ group) none = by_case (no_time group) (times id) refl none
    where
      by_case : (is_some_known times group ≡ false → known_time times group ≡ 0) → (o : Option ℕ) → times id ≡ o → (is_some o || is_some_known times group) ≡ false → known_time times (id ∷ group) ≡ 0
      by_case rest (Some t) is none = absurd (true≢false none)
      by_case rest None is none = sum_by-cons (λ i. unwrap_or (times i) 0) id group ∙ ap₂ ◌+◌ (ap (λ o. unwrap_or o 0) is) (rest none)

  turn_bounded : (k longest index : ℕ) (shares : List Ids) (group : Ids) → index < length shares → known_time times group ≡ 0 → AreBounded k longest shares → AreBounded k longest (with_group shares index group)
  turn_bounded k longest index shares group below none bounded =
      let same : sum_by (known_time times) (with_group shares index group) ≡ sum_by (known_time times) shares = omega (arith, time_grown shares index group below) in
      let whole : known_time times (get_or shares index [] ++ group) ≡ known_time times (get_or shares index []) = omega (arith, sum_by-append (λ id. unwrap_or (times id) 0) (get_or shares index []) group) in
      all_set (λ share. (k + 1) * known_time times share ≤ sum_by (known_time times) (with_group shares index group) + k * longest) shares index (get_or shares index [] ++ group)
      (rw (whole, same) (all_at (λ share. (k + 1) * known_time times share ≤ sum_by (known_time times) shares + k * longest) shares index [] below bounded))
      (rw same bounded)

  pub in_turn_bounded : (k longest turn : ℕ) (groups shares : List Ids) → length shares ≡ k + 1 → AllByRecursion (λ group. known_time times group ≡ 0) groups → AreBounded k longest shares → AreBounded k longest (given_in_turn shares turn groups)
  in_turn_bounded k longest turn [] shares long none bounded = bounded
  in_turn_bounded k longest turn (group ∷ groups) shares long none bounded =
      let index = turn % length shares in
      in_turn_bounded k longest (turn + 1) groups (with_group shares index group) (length-given shares index group ∙ long) none.1 (turn_bounded k longest index shares group (mod_below turn (length shares) (omega arith)) none.0 bounded)

  start_bounded : (k longest n : ℕ) → AllByRecursion (λ share. (k + 1) * known_time times share ≤ sum_by (known_time times) (replicate {A = Ids} n []) + k * longest) (replicate {A = Ids} n [])
  start_bounded k longest n = empty (sum_by (known_time times) (replicate {A = Ids} n []) + k * longest) n
    where
      empty : (c n : ℕ) → AllByRecursion (λ share. (k + 1) * known_time times share ≤ c) (replicate {A = Ids} n [])
      empty c zero = tt
      empty c (suc n) = ((let nothing : (k + 1) * 0 ≡ 0 = omega arith in rw nothing (omega arith)), empty c n)

  untimed_none : (group : List ℕ → Ids) (names : List (List ℕ)) → AllByRecursion (λ ids. known_time times ids ≡ 0) (untimed_groups times group names)
  untimed_none group [] = tt
  untimed_none group (name ∷ names) = elim (has_time times group name) as (λ b. has_time times group name ≡ b → AllByRecursion (λ ids. known_time times ids ≡ 0) (map group (cond (not b) (name ∷ filter (λ n. not (has_time times group n)) names) (filter (λ n. not (has_time times group n)) names)))) [
    | true ↦ λ is. untimed_none group names
    | false ↦ λ is. (no_time (group name) is, untimed_none group names)
  ] refl

  module _ (name_of : List ℕ → List ℕ) (ids : Ids) where
    abbrev longest : ℕ
    longest = longest_group times name_of ids

    -- no group that is given is longer than the longest
    none_longer : AllByRecursion (λ group. known_time times group ≤ longest) (timed_groups times (members name_of ids) (group_names name_of ids))
    none_longer =
        let f = λ (name : List ℕ). known_time times (members name_of ids name) in
        let names = group_names name_of ids in
        let each : AllByRecursion (λ name. f name ≤ longest) names = all_of_map f (λ n. n ≤ longest) names (each_below 0 (map f names)) in
        let given : AllByRecursion (λ name. f name ≤ longest) (order times name_of ids) = recursion_from_All _ _ (All-permutation (λ name. f name ≤ longest) names (order times name_of ids) (permuted times name_of ids) (All-from_recursion _ _ each)) in
        all_mapped (λ (r : Rank). members name_of ids r.name) (λ group. known_time times group ≤ longest) (ranks times (members name_of ids) names)
        (all_of_map (λ (r : Rank). r.name) (λ name. f name ≤ longest) (ranks times (members name_of ids) names) (all_front (λ name. f name ≤ longest) _ _ given))

    bounded : (k : ℕ) → AreBounded k longest (shares_of times name_of ids (k + 1))
    bounded k =
        let start : List Ids = replicate (k + 1) [] in
        let long : length start ≡ k + 1 = length-replicate {A = Ids} (k + 1) [] in
        let timed = timed_groups times (members name_of ids) (group_names name_of ids) in
        in_turn_bounded k longest 0 (untimed_groups times (members name_of ids) (group_names name_of ids)) (given_to_least times start timed) (length-to_least times start timed ∙ long) (untimed_none (members name_of ids) (group_names name_of ids))
        (to_least_bounded k longest timed start long none_longer (start_bounded k longest (k + 1)))

    -- the bound by the time of all and the longest group
    pub within_bound : (workers : ℕ) → 0 < workers → IsWithinBound times name_of ids workers (shares_of times name_of ids workers)
    within_bound workers some =
        let more : workers ≡ workers - 1 + 1 = omega arith in
        let k = workers - 1 in
        let all : AllByRecursion (λ share. (k + 1) * known_time times share ≤ known_time times ids + k * longest) (shares_of times name_of ids (k + 1)) =
        subst (λ total. AllByRecursion (λ share. (k + 1) * known_time times share ≤ total + k * longest) (shares_of times name_of ids (k + 1))) (sum_of_shares times name_of ids (λ id. unwrap_or (times id) 0) (k + 1) (omega arith)) (bounded k) in
        subst (λ n. n * largest_share times (shares_of times name_of ids n) ≤ known_time times ids + k * longest) (sym more)
        (times_largest (k + 1) (known_time times ids + k * longest) 0 (map (known_time times) (shares_of times name_of ids (k + 1))) (let nothing : (k + 1) * 0 ≡ 0 = omega arith in rw nothing (omega arith))
        (all_mapped (known_time times) (λ t. (k + 1) * t ≤ known_time times ids + k * longest) (shares_of times name_of ids (k + 1)) all))

-- ---- any division

count_out : (a start n : ℕ) → a < start → count_by (λ j. a == j) (range_with_len start n) ≡ 0
count_out a start zero below = refl
count_out a start (suc n) below =
    let other : (a == start) ≡ false = grind (arith, nat_tests) in
    sum_by-cons (λ j. cond (a == j) 1 0) start (range_with_len (start + 1) n) ∙ ap₂ ◌+◌ (ap (λ b. cond b 1 0) other) (count_out a (start + 1) n (omega arith))

count_in : (a start n : ℕ) → start ≤ a → a < start + n → count_by (λ j. a == j) (range_with_len start n) ≡ 1
count_in a start zero from below = absurd (omega arith)
count_in a start (suc n) from below = elim (cases_lt start a) [
  | inl later ↦ let other : (a == start) ≡ false = grind (arith, nat_tests) in
      sum_by-cons (λ j. cond (a == j) 1 0) start (range_with_len (start + 1) n) ∙ ap₂ ◌+◌ (ap (λ b. cond b 1 0) other) (count_in a (start + 1) n (omega arith) (omega arith))
  | inr here ↦ let same : (a == start) ≡ true = grind (arith, nat_tests) in
      sum_by-cons (λ j. cond (a == j) 1 0) start (range_with_len (start + 1) n) ∙ ap₂ ◌+◌ (ap (λ b. cond b 1 0) same) (count_out a (start + 1) n (omega arith))
]

module _ (times : Times) (name_of : List ℕ → List ℕ) (ids : Ids) (workers : ℕ) (assigned : List ℕ → ℕ) (few : (name : List ℕ) → assigned name < workers) where
  abbrev best : ℕ
  best = largest_share times (division assigned name_of ids workers)

  parts_below : AllByRecursion (λ j. known_time times (assigned_share assigned name_of ids j) ≤ best) (range_with_len 0 workers)
  parts_below =
      all_of_map (assigned_share assigned name_of ids) (λ share. known_time times share ≤ best) (range_with_len 0 workers)
      (all_of_map (known_time times) (λ t. t ≤ best) (division assigned name_of ids workers) (each_below 0 (map (known_time times) (division assigned name_of ids workers))))

  all_below : known_time times ids ≤ workers * best
  all_below =
      let h = λ (id : List ℕ). unwrap_or (times id) 0 in
      let parts : sum_by (λ j. known_time times (assigned_share assigned name_of ids j)) (range_with_len 0 workers) ≡ known_time times ids =
      sum_of_parts (λ j id. assigned (name_of id) == j) h (range_with_len 0 workers) ids (each ids) in
      subst (λ n. n ≤ workers * best) parts (subst (λ n. sum_by (λ j. known_time times (assigned_share assigned name_of ids j)) (range_with_len 0 workers) ≤ n * best) (length-range_with_len 0 workers) (sum_at_most (λ j. known_time times (assigned_share assigned name_of ids j)) best (range_with_len 0 workers) parts_below))
    where
      each : (ids : Ids) → AllByRecursion (λ id. count_by (λ j. assigned (name_of id) == j) (range_with_len 0 workers) ≡ 1) ids
      each [] = tt
      each (id ∷ ids) = (count_in (assigned (name_of id)) 0 workers (omega arith) (omega (arith, few (name_of id))), each ids)

  longest_below : longest_group times name_of ids ≤ best
  longest_below =
      largest_below best 0 (map (λ name. known_time times (members name_of ids name)) (group_names name_of ids)) (omega arith)
      (all_mapped (λ name. known_time times (members name_of ids name)) (λ t. t ≤ best) (group_names name_of ids) (each (group_names name_of ids)))
    where
      one : (name : List ℕ) → known_time times (members name_of ids name) ≤ best
      one name =
          let part : known_time times (members name_of ids name) ≤ known_time times (assigned_share assigned name_of ids (assigned name)) =
          sum_of_some (λ id. unwrap_or (times id) 0) (λ id. bytes_eq name (name_of id)) (λ id. assigned (name_of id) == assigned name)
          (λ id is. ap (λ n. assigned n == assigned name) (sym ((bytes_eq-Decides name (name_of id)).0 is)) ∙ equal_itself (assigned name)) ids in
          let at : get_or (range_with_len 0 workers) (assigned name) 0 ≡ assigned name = omega (arith, get_or-range_with_len 0 workers (assigned name) 0 (few name)) in
          let whole : known_time times (assigned_share assigned name_of ids (assigned name)) ≤ best =
          subst (λ j. known_time times (assigned_share assigned name_of ids j) ≤ best) at (all_at (λ j. known_time times (assigned_share assigned name_of ids j) ≤ best) (range_with_len 0 workers) (assigned name) 0 (omega (arith, few name, length-range_with_len 0 workers)) parts_below) in
          omega arith

      each : (names : List (List ℕ)) → AllByRecursion (λ name. known_time times (members name_of ids name) ≤ best) names
      each [] = tt
      each (name ∷ names) = (one name, each names)

-- the bound by the best division
pub near_best : (times : Times) (name_of : List ℕ → List ℕ) (ids : Ids) (workers : ℕ) → 0 < workers → IsNearBest times name_of ids workers (shares_of times name_of ids workers)
near_best times name_of ids workers some assigned few =
    let k = workers - 1 in
    let more : workers ≡ k + 1 = omega arith in
    let twice : 2 * workers - 1 ≡ 2 * k + 1 = omega arith in
    let total = all_below times name_of ids workers assigned few in
    let groups : k * longest_group times name_of ids ≤ k * best times name_of ids workers assigned few = mul-le-mul_left k (longest_below times name_of ids workers assigned few) in
    rw twice (joined workers k _ _ _ _ more (within_bound times name_of ids workers some) total groups)
  where
    joined : (m k large total long most : ℕ) → m ≡ k + 1 → m * large ≤ total + k * long → total ≤ m * most → k * long ≤ k * most → m * large ≤ (2 * k + 1) * most
    joined m k large total long most more within all groups = omega (arith, subst (λ n. total ≤ n * most) more all)
