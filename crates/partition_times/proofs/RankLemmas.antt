-- Groups and their ranks.
use Rattle.std.proofs.Common.{◌≡◌, ℕ, ◌*◌, ◌^◌, ◌≤◌, ◌||◌, ◌++◌, Bool, true, false, not, cond, List, [], ◌∷◌, map, length, Vec, Global, refl, sym, ◌∙◌, ap, ap₂}
use Rattle.std.specs.FinMap.{IsAntisymmetric, slice_cmp-IsAntisymmetric, nat_cmp-IsAntisymmetric}
use Rattle.std.specs.List.{AllByRecursion, list_any, filter}
use Rattle.std.specs.List.Sorted.{IsStrictlySortedBy}
use Rattle.std.specs.Cmp.{IsTotalOrder, bool_cmp_total}
use Rattle.std.proofs.lemmas.Cmp.{then_total, on_total, back_total, nat_cmp_total, nat_list_cmp_total}
use Rattle.std.specs.Ordering.{eq_by_cmp, nat_cmp, bool_cmp, ordering_then}
use Rattle.std.specs.declared.cmp.Ordering.{Ordering}
use Rattle.std.specs.declared.cmp.Ordering.TheVariants.{Less, Equal, Greater}
use Rattle.std.specs.Map.{keys_of}
use Rattle.std.specs.BTreeMap.{insert_entry}
use Rattle.std.proofs.lemmas.List.{map-append, append-nil}
use Rattle.std.proofs.lemmas.List.Elements.{All-from_recursion, recursion_from_All, filter-append}
use Rattle.std.proofs.lemmas.List.Folds.{list_any-append}
use Rattle.std.proofs.Math.Bool.{or_comm}
use Rattle.partition_times.specs.Shares.{Ids, Times, Rank, rank_cmp, rank_of, has_time, are_all_known, known_time, timed_groups, untimed_groups}
use Rattle.partition_times.specs.Ranked.{plain_rank, IsGroupOfRank, AreRanked}
use Rattle.partition_times.specs.declared.rank.Rank as code
use Rattle.partition_times.specs.declared.rank.Ranked.{Ranked}
use Rattle.partition_times.proofs.OrderLemmas.{any_inserted, all_inserted, sorted_in_order, sorted_by}

pub rank_total : IsTotalOrder rank_cmp
rank_total = then_total (on_total (λ (r : Rank). r.partly) bool_cmp_total) (then_total (back_total (on_total (λ (r : Rank). r.time) nat_cmp_total)) (on_total (λ (r : Rank). r.name) nat_list_cmp_total))

then_equal : (a b : Ordering) → ordering_then a b ≡ Equal → (a ≡ Equal) × (b ≡ Equal)
then_equal Less b is = cc
then_equal Equal b is = (refl, is)
then_equal Greater b is = cc

same_bool : (a b : Bool) → bool_cmp a b ≡ Equal → a ≡ b
same_bool true true is = refl
same_bool false false is = refl
same_bool true false is = cc
same_bool false true is = cc

pub rank_exact : IsAntisymmetric rank_cmp
rank_exact a b is =
    let first = then_equal (bool_cmp a.partly b.partly) _ is in
    let second = then_equal (nat_cmp b.time a.time) _ first.1 in
    let partly = same_bool a.partly b.partly first.0 in
    let time = nat_cmp-IsAntisymmetric b.time a.time second.0 in
    let name = slice_cmp-IsAntisymmetric nat_cmp-IsAntisymmetric a.name b.name second.1 in
    λ i. record { partly = partly i; time = sym time i; name = name i }

module _ (times : Times) (group : List ℕ → Ids) (names : List (List ℕ)) (name : List ℕ) where
  -- one more name
  more_timed : has_time times group name ≡ true → filter (has_time times group) (names ++ name ∷ []) ≡ filter (has_time times group) names ++ name ∷ []
  more_timed has = filter-append (has_time times group) names (name ∷ []) ∙ ap (λ b. filter (has_time times group) names ++ cond b (name ∷ []) []) has

  not_more_timed : has_time times group name ≡ false → filter (has_time times group) (names ++ name ∷ []) ≡ filter (has_time times group) names
  not_more_timed has_not = filter-append (has_time times group) names (name ∷ []) ∙ ap (λ b. filter (has_time times group) names ++ cond b (name ∷ []) []) has_not ∙ append-nil _

  more_untimed : has_time times group name ≡ false → untimed_groups times group (names ++ name ∷ []) ≡ untimed_groups times group names ++ group name ∷ []
  more_untimed has_not = ap (map group) (filter-append (λ n. not (has_time times group n)) names (name ∷ []) ∙ ap (λ b. filter (λ n. not (has_time times group n)) names ++ cond (not b) (name ∷ []) []) has_not) ∙ map-append group _ (name ∷ [])

  not_more_untimed : has_time times group name ≡ true → untimed_groups times group (names ++ name ∷ []) ≡ untimed_groups times group names
  not_more_untimed has = ap (map group) (filter-append (λ n. not (has_time times group n)) names (name ∷ []) ∙ ap (λ b. filter (λ n. not (has_time times group n)) names ++ cond (not b) (name ∷ []) []) has ∙ append-nil _)

  -- one more group without a known time
  pub one_more_untimed : (old new : Ranked) (ids : Vec (List ℕ) Global) → has_time times group name ≡ false → ids.items ≡ group name → new.timed ≡ old.timed → new.untimed.items ≡ old.untimed.items ++ ids ∷ [] → AreRanked times group names old → AreRanked times group (names ++ name ∷ []) new
  one_more_untimed old new ids has_not is same pushed ranked = record {
    timed = rw same ranked.timed;
    ranks = λ q. rw (same, not_more_timed has_not) (ranked.ranks q);
    untimed = ap (map (λ list. list.items)) pushed ∙ map-append (λ list. list.items) old.untimed.items (ids ∷ []) ∙ ap₂ ◌++◌ ranked.untimed (ap (λ x. x ∷ []) is) ∙ sym (more_untimed has_not);
  }

  -- one more group with some known time
  pub one_more_timed : (old new : Ranked) (rank : code.Rank) (ids : Vec (List ℕ) Global) → has_time times group name ≡ true → plain_rank rank ≡ rank_of times (group name) name → ids.items ≡ group name → rank.time.0 ≤ length ids.items * 2 ^ 64 → new.untimed ≡ old.untimed
      → new.timed.entries ≡ insert_entry (λ x y. rank_cmp (plain_rank x) (plain_rank y)) old.timed.entries rank ids → AreRanked times group names old → AreRanked times group (names ++ name ∷ []) new
  one_more_timed old new rank ids has rank_is is small same inserted ranked = record {
    timed = rw inserted (All-from_recursion _ _ (all_inserted plain_rank rank_total rank_exact (λ r (list : Vec (List ℕ) Global). IsGroupOfRank times group r list.items) rank ids
        (record { ids_are = is ∙ ap group (sym (ap (λ r. r.name) rank_is)); rank_is = rank_is ∙ ap₂ (rank_of times) (sym is) (sym (ap (λ r. r.name) rank_is)); small = small })
        old.timed.entries (recursion_from_All _ _ ranked.timed)));
    ranks = λ q. ap (λ es. list_any (eq_by_cmp rank_cmp q) (map plain_rank (keys_of es))) inserted ∙ any_inserted plain_rank rank_total q rank ids old.timed.entries
        ∙ ap₂ ◌||◌ (ap (eq_by_cmp rank_cmp q) rank_is) (ranked.ranks q)
        ∙ or_comm (eq_by_cmp rank_cmp q (rank_of times (group name) name)) _
        ∙ sym (ap (λ ns. list_any (eq_by_cmp rank_cmp q) (map (λ n. rank_of times (group n) n) ns)) (more_timed has)
        ∙ ap (list_any (eq_by_cmp rank_cmp q)) (map-append (λ n. rank_of times (group n) n) (filter (has_time times group) names) (name ∷ []))
        ∙ list_any-append (eq_by_cmp rank_cmp q) (map (λ n. rank_of times (group n) n) (filter (has_time times group) names)) (rank_of times (group name) name ∷ [])
        ∙ ap (λ b. list_any (eq_by_cmp rank_cmp q) (map (λ n. rank_of times (group n) n) (filter (has_time times group) names)) || b) (or_false _));
    untimed = rw same (ranked.untimed ∙ sym (not_more_untimed has));
  }
    where
      or_false : (b : Bool) → (b || false) ≡ b
      or_false true = refl
      or_false false = refl

-- in the end the entries are the groups with some known time, in the order of their ranks
pub timed_in_order : (times : Times) (group : List ℕ → Ids) (names : List (List ℕ)) (ranked : Ranked) → AreRanked times group names ranked → IsStrictlySortedBy (λ x y. rank_cmp (plain_rank x) (plain_rank y)) (keys_of ranked.timed.entries) → map (λ e. e.1.items) ranked.timed.entries ≡ timed_groups times group names
timed_in_order times group names ranked are sorted =
    by_rank ranked.timed.entries (recursion_from_All _ _ are.timed)
    ∙ ap (map (λ rank. group rank.name)) (sym (sorted_in_order rank_total rank_exact (map plain_rank (keys_of ranked.timed.entries)) _ (sorted_by plain_rank rank_cmp _ sorted) are.ranks))
  where
    by_rank : (es : List (code.Rank × Vec (List ℕ) Global)) → AllByRecursion (λ e. IsGroupOfRank times group (plain_rank e.0) e.1.items) es → map (λ e. e.1.items) es ≡ map (λ rank. group rank.name) (map plain_rank (keys_of es))
    by_rank [] all = refl
    by_rank (e ∷ es) all = ap₂ ◌∷◌ all.0.ids_are (by_rank es all.1)

-- the rank, of what was found of the times
pub known_rank : (times : Times) (ids same : Ids) (name : List ℕ) (all : Bool) (time : ℕ) → ids ≡ same → all ≡ are_all_known times ids → time ≡ known_time times ids → record { partly = not all; time = time; name = name } ≡ rank_of times same name
known_rank times ids same name all time is is_all is_time = rw (is_all, is_time, is) refl
