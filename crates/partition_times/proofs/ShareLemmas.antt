-- Groups given to shares.
use Rattle.std.proofs.Common.{◌≡◌, ℕ, ◌++◌, ◌||◌, true, false, cond, List, [], ◌∷◌, map, length, get_or, replicate, Some, is_some, Vec, Global, Bor, refl, sym, ◌∙◌, ap, ap₂, subst}
use Rattle.std.specs.Option.{option_map_or}
use Rattle.std.specs.Str.{bytes_eq}
use Rattle.std.specs.Ordering.{nat_cmp, eq_by_cmp, is_eq}
use Rattle.std.specs.Cmp.Lexicographic.{slice_cmp}
use Rattle.std.specs.FinMap.{slice_cmp-IsAntisymmetric, nat_cmp-IsAntisymmetric}
use Rattle.std.specs.List.{list_any}
use Rattle.std.specs.List.Sorted.{IsStrictlySortedBy}
use Rattle.std.specs.Map.{lookup}
use Rattle.std.specs.BTreeMap.{is_at}
use Rattle.std.proofs.lemmas.Cmp.{nat_list_cmp_total, on_total}
use Rattle.std.proofs.lemmas.Map.Entries.{btree_map_get_place}
use Rattle.std.proofs.lemmas.Option.{slice_get-get_or}
use Rattle.std.specs.List.{slice_get}
use Rattle.std.proofs.lemmas.Map.Text.{is_eq-slice_cmp}
use Rattle.std.proofs.lemmas.List.{length-set}
use Rattle.partition_times.specs.Names.{members, group_names}
use Rattle.partition_times.specs.Shares.{Ids, Times, least_share, with_group, given_to_least, given_in_turn, dealt}
use Rattle.partition_times.specs.Gathered.{IdsByName, AreGathered}
use Rattle.partition_times.specs.Ranked.{list_names, AreGroups, AreRanked, AreKnown, ids_by_group, AreNamesInOrder, AreRanksInOrder}
use Rattle.partition_times.specs.declared.rank.Ranked.{Ranked}
use Rattle.partition_times.proofs.OrderLemmas.{sorted_in_order, sorted_by}
use Rattle.partition_times.proofs.RankLemmas.{timed_in_order}

pub length-given : (shares : List Ids) (index : ℕ) (ids : Ids) → length (with_group shares index ids) ≡ length shares
length-given shares index ids = length-set shares index (get_or shares index [] ++ ids)

pub length-to_least : (times : Times) (shares groups : List Ids) → length (given_to_least times shares groups) ≡ length shares
length-to_least times shares [] = refl
length-to_least times shares (group ∷ groups) = length-to_least times (with_group shares (least_share times shares) group) groups ∙ length-given shares (least_share times shares) group

-- the keys and the lists of a map by name
module _ where
  texts : (q : List ℕ) (lists : List (Bor (List ℕ) × Vec (List ℕ) Global)) → list_any (eq_by_cmp (slice_cmp nat_cmp) q) (map (λ e. e.0.now) lists) ≡ is_some (lookup (is_at (λ (key : Bor (List ℕ)). slice_cmp nat_cmp q key.now)) lists)
  texts q [] = refl
  texts q (e ∷ lists) = elim (is_eq (slice_cmp nat_cmp q e.0.now)) as (λ b. (b || list_any (eq_by_cmp (slice_cmp nat_cmp) q) (map (λ (e : Bor (List ℕ) × Vec (List ℕ) Global). e.0.now) lists)) ≡ is_some (cond b (Some e.1) (lookup (is_at (λ (key : Bor (List ℕ)). slice_cmp nat_cmp q key.now)) lists))) [ true ↦ refl | false ↦ texts q lists ]

  named : (name_of : List ℕ → List ℕ) (q : List ℕ) (ids : Ids) → list_any (eq_by_cmp (slice_cmp nat_cmp) q) (map name_of ids) ≡ list_any (λ id. bytes_eq q (name_of id)) ids
  named name_of q [] = refl
  named name_of q (id ∷ ids) = ap₂ ◌||◌ (is_eq-slice_cmp q (name_of id)) (named name_of q ids)

  now_of_keys : (es : List (Bor (List ℕ) × Vec (List ℕ) Global)) → map (λ (key : Bor (List ℕ)). key.now) (map (λ e. e.0) es) ≡ map (λ e. e.0.now) es
  now_of_keys [] = refl
  now_of_keys (e ∷ es) = ap (λ names. e.0.now ∷ names) (now_of_keys es)

  -- the gathered lists stand under the names of the groups
  pub names_of_gathered : (name_of : List ℕ → List ℕ) (ids : Ids) (lists : IdsByName) → AreGathered name_of ids lists → AreNamesInOrder lists → list_names lists ≡ group_names name_of ids
  names_of_gathered name_of ids lists gathered sorted =
      sym (sorted_in_order nat_list_cmp_total (slice_cmp-IsAntisymmetric nat_cmp-IsAntisymmetric) (list_names lists) (map name_of ids)
      (subst (IsStrictlySortedBy (slice_cmp nat_cmp)) (now_of_keys lists.entries) (sorted_by (λ (key : Bor (List ℕ)). key.now) (slice_cmp nat_cmp) (map (λ e. e.0) lists.entries) sorted))
      (λ q. texts q lists.entries ∙ gathered.names q ∙ sym (named name_of q ids)))

-- the groups by the ids of each name
pub groups_of_gathered : (name_of : List ℕ → List ℕ) (ids : Ids) (lists : IdsByName) → AreGathered name_of ids lists → AreNamesInOrder lists → AreGroups (members name_of ids) lists
groups_of_gathered name_of ids lists gathered sorted = λ k d below.
    let e = get_or lists.entries k d in
    let place : slice_get lists.entries k ≡ Some e = slice_get-get_or lists.entries k d below in
    let found = btree_map_get_place (on_total (λ (key : Bor (List ℕ)). key.now) nat_list_cmp_total) lists k e.0 e.1 sorted place in
    sym (ap (λ o. option_map_or (λ list. list.items) o []) found) ∙ gathered.ids_of e.0.now

-- what ranks and their groups say of times
pub known_of_ranked : (times : Times) (group : List ℕ → Ids) (names : List (List ℕ)) (ranked : Ranked) → AreRanked times group names ranked → AreKnown times ranked.timed
known_of_ranked times group names ranked are = λ k d below.
    let one = are.timed k d below in
    (ap (λ r. r.time) one.rank_is, one.small)

-- the shares of ranked groups
pub dealt_of_ranked : (times : Times) (group : List ℕ → Ids) (names : List (List ℕ)) (ranked : Ranked) (workers : ℕ) (start middle end : List Ids) → AreRanked times group names ranked → AreRanksInOrder ranked.timed → start ≡ replicate workers [] → middle ≡ given_to_least times start (ids_by_group ranked.timed)
    → end ≡ given_in_turn middle 0 (map (λ ids. ids.items) ranked.untimed.items) → end ≡ dealt times group names workers
dealt_of_ranked times group names ranked workers start middle end are sorted is_start is_middle is_end =
    is_end ∙ ap₂ (λ shares groups. given_in_turn shares 0 groups) (is_middle ∙ ap₂ (given_to_least times) is_start (timed_in_order times group names ranked are sorted)) are.untimed
