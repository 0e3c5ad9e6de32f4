-- Shards are the shares of so many workers.
use Rattle.std.proofs.Common.{◌≡◌, ℕ, zero, suc, ◌+◌, ◌<◌, ◌-◌, ◌%◌, ◌==◌, Bool, true, false, cond, List, [], ◌∷◌, Option, None, Some, length, get_or, bytes_eq, refl, sym, ap, subst, ◌∙◌, arith}
use Rattle.std.specs.Prelude.{slice_index_or}
use Rattle.std.specs.List.{list_any, count_by, sum_by, IsDistinct}
use Rattle.std.proofs.Math.Dec.{eqb-suc-zero}
use Rattle.std.proofs.lemmas.Bool.{eqb-true}
use Rattle.std.proofs.lemmas.List.{same_lists, get_or_default, get_or_past}
use Rattle.std.proofs.lemmas.List.FromFn.{get_or-map-range_with_len, length-map-range_with_len}
use Rattle.std.proofs.lemmas.List.Sums.{sum_by-cons}
use Rattle.std.proofs.lemmas.Cmp.{nat_list_eq_equiv}
use Rattle.partition_times.specs.Bound.{IsWithinBound}
use Rattle.partition_times.specs.Kept.{StandsInOne, StandsAsOften}
use Rattle.partition_times.specs.Names.{group_of, group_names, members}
use Rattle.partition_times.specs.Shares.{Ids, Times, with_group, given_in_turn, given_to_least, shares_of, timed_groups, untimed_groups}
use Rattle.partition_times.proofs.BoundLemmas.{within_bound}
use Rattle.partition_times.proofs.LawLemmas.{one_each, stands_in_one, stands_as_often, sum_of_shares}
use Rattle.partition_times.proofs.ShareLemmas.{length-given, length-to_least}
use Rattle.partition_times.proofs.SumLemmas.{stands_once}
use Rattle.suite_plan.specs.Sharing.{dealt_among, ids_of_shard, shards_of}
use Rattle.testr_words.specs.Shards.{NumberedShard}

module _ (times : Times) (groups : Option (List ℕ)) (ids : Ids) (count : ℕ) where
  -- one worker has all ids, and several have the shares
  dealt_as : (P : List Ids → Type 0) → ((count == 1) ≡ true → P (ids ∷ [])) → P (shares_of times (group_of groups) ids count) → P (dealt_among times groups ids count)
  dealt_as P one several = elim (count == 1) as (λ b. (count == 1) ≡ b → P (cond b (ids ∷ []) (shares_of times (group_of groups) ids count))) [
    | true ↦ λ is. one is
    | false ↦ λ is. several
  ] refl

  length-dealt : 0 < count → length (dealt_among times groups ids count) ≡ count
  length-dealt some = dealt_as (λ l. length l ≡ count) (λ is. sym (eqb-true count 1 is)) (one_each times (group_of groups) ids count some)

  pub shards_are : 0 < count → shards_of times groups ids count ≡ dealt_among times groups ids count
  shards_are some =
      let dealt : List Ids = dealt_among times groups ids count in
      let of : ℕ → Ids = λ place. ids_of_shard times groups (Some (record { number = suc place; count = count })) ids in
      same_lists (shards_of times groups ids count) dealt (length-map-range_with_len of 0 count ∙ sym (length-dealt some)) (λ k d below.
      let long : length (shards_of times groups ids count) ≡ count = length-map-range_with_len of 0 count in
      let less : k < count = omega (arith, below, long) in
      let back : suc k - 1 ≡ k = omega arith in
      get_or-map-range_with_len of 0 count k k d less (omega arith)
      ∙ ap (λ i. slice_index_or dealt i []) back
      ∙ get_or_default dealt k [] d (omega (arith, less, length-dealt some)))

  once_in_all : (id : List ℕ) → StandsAsOften ids (ids ∷ []) id
  once_in_all id = omega (arith, sum_by-cons (λ (share : Ids). count_by (bytes_eq id) share) ids [])

  all_in_one : (name : List ℕ) → StandsInOne (group_of groups) ids (ids ∷ []) name
  all_in_one name = (0, omega arith, each)
    where
      each : (k : ℕ) → members (group_of groups) (slice_index_or (ids ∷ []) k []) name ≡ cond (k == 0) (members (group_of groups) ids name) []
      each zero = refl
      each (suc k) = sym (ap (λ b. cond b (members (group_of groups) ids name) []) (eqb-suc-zero k))

  pub shards_as_often : 0 < count → (id : List ℕ) → StandsAsOften ids (shards_of times groups ids count) id
  shards_as_often some id = subst (λ l. StandsAsOften ids l id) (sym (shards_are some)) (dealt_as (λ l. StandsAsOften ids l id) (λ is. once_in_all id) (stands_as_often times (group_of groups) ids count some id))

  pub shards_once : 0 < count → IsDistinct bytes_eq ids → (id : List ℕ) → list_any (bytes_eq id) ids ≡ true → sum_by (λ shard. count_by (bytes_eq id) shard) (shards_of times groups ids count) ≡ 1
  shards_once some distinct id there = shards_as_often some id ∙ stands_once bytes_eq nat_list_eq_equiv id ids distinct there

  pub shards_in_one : 0 < count → (name : List ℕ) → StandsInOne (group_of groups) ids (shards_of times groups ids count) name
  shards_in_one some name = subst (λ l. StandsInOne (group_of groups) ids l name) (sym (shards_are some)) (dealt_as (λ l. StandsInOne (group_of groups) ids l name) (λ is. all_in_one name) (stands_in_one times (group_of groups) ids count some name))

  pub shards_bounded : 0 < count → IsWithinBound times (group_of groups) ids count (shards_of times groups ids count)
  shards_bounded some = subst (λ l. IsWithinBound times (group_of groups) ids count l) (sym (shards_are some)) (dealt_as (λ l. IsWithinBound times (group_of groups) ids count l) one (within_bound times (group_of groups) ids count some))
    where
      one : (count == 1) ≡ true → IsWithinBound times (group_of groups) ids count (ids ∷ [])
      one is =
          let same : count ≡ 1 = eqb-true count 1 is in
          rw same (omega arith)

-- ---- a shard of no ids has none

abbrev how_many : Ids → ℕ
how_many ids = sum_by (λ id. 1) ids

nothing_at : (shares : List Ids) (k : ℕ) → sum_by how_many shares ≡ 0 → get_or shares k [] ≡ []
nothing_at [] k is = refl
nothing_at ([] ∷ shares) zero is = refl
nothing_at ((id ∷ ids) ∷ shares) zero is = absurd (omega (arith, is, sum_by-cons how_many (id ∷ ids) shares, sum_by-cons (λ (x : List ℕ). 1) id ids))
nothing_at (share ∷ shares) (suc k) is = nothing_at shares k (omega (arith, is, sum_by-cons how_many share shares))

alone_at : (k : ℕ) → get_or {A = Ids} ([] ∷ []) k [] ≡ []
alone_at zero = refl
alone_at (suc k) = refl

-- among no workers there is no share
length-in_turn : (shares : List Ids) (turn : ℕ) (groups : List Ids) → length (given_in_turn shares turn groups) ≡ length shares
length-in_turn shares turn [] = refl
length-in_turn shares turn (group ∷ groups) =
    length-in_turn (with_group shares (turn % length shares) group) (turn + 1) groups ∙ length-given shares (turn % length shares) group

none_among : (times : Times) (name_of : List ℕ → List ℕ) (ids : Ids) → length (shares_of times name_of ids 0) ≡ 0
none_among times name_of ids =
    let timed : List Ids = timed_groups times (members name_of ids) (group_names name_of ids) in
    let first : List Ids = given_to_least times [] timed in
    length-in_turn first 0 (untimed_groups times (members name_of ids) (group_names name_of ids)) ∙ length-to_least times [] timed

share_at : (one : Bool) (times : Times) (groups : Option (List ℕ)) (n k : ℕ) → get_or (cond one ([] ∷ []) (shares_of times (group_of groups) [] n)) k [] ≡ []
share_at true times groups n k = alone_at k
share_at false times groups zero k = get_or_past (shares_of times (group_of groups) [] 0) k [] (omega (arith, none_among times (group_of groups) []))
share_at false times groups (suc n) k = nothing_at (shares_of times (group_of groups) [] (suc n)) k (sum_of_shares times (group_of groups) [] (λ id. 1) (suc n) (omega arith))

pub no_part : (times : Times) (groups : Option (List ℕ)) (shard : Option NumberedShard) → ids_of_shard times groups shard [] ≡ []
no_part times groups None = refl
no_part times groups (Some part) = share_at (part.count == 1) times groups part.count (part.number - 1)
