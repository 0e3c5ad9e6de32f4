-- How groups of ids are given to workers (docs/FORMATS.md, "Shares"). A share is the list of its ids, and its time is the sum of those that are known.
use Rattle.std.specs.Prelude.{ℕ, suc, ◌+◌, ◌%◌, ◌++◌, ◌==◌, ◌&&◌, ◌||◌, nat_lt, not, Bool, List, [], ◌∷◌, map, length, replicate, Option, is_some, unwrap_or, slice_index_or, slice_set, if◌then◌else◌}
use Rattle.std.specs.List.{filter, list_any, list_all, sum_by}
use Rattle.std.specs.Ordering.{nat_cmp, bool_cmp, ordering_then}
use Rattle.std.specs.declared.cmp.Ordering.{Ordering}
use Rattle.std.specs.Cmp.Lexicographic.{slice_cmp}
use Rattle.partition_times.specs.Order.{in_order}
use Rattle.partition_times.specs.Names.{members, group_names}

-- ids of tests, in an order
abbrev pub Ids : Type 0
Ids = List (List ℕ)

-- the times of ids, where they are known
abbrev pub Times : Type 0
Times = List ℕ → Option ℕ

-- the sum of the known times
abbrev pub known_time : Times → Ids → ℕ
known_time times ids = sum_by (λ id. unwrap_or (times id) 0) ids

-- whether some of the ids has a known time, and whether each has one
abbrev pub is_some_known : Times → Ids → Bool
is_some_known times ids = list_any (λ id. is_some (times id)) ids

-- each of the ids has a known time
abbrev pub are_all_known : Times → Ids → Bool
are_all_known times ids = list_all (λ id. is_some (times id)) ids

-- what decides when a group is given away
pub record Rank : Type 0 where
  -- the time of some id of the group is unknown
  pub partly : Bool
  pub time : ℕ
  pub name : List ℕ

-- the groups of which each time is known come first; then the longest group, and of equal times the one with the smaller name
abbrev pub rank_cmp : Rank → Rank → Ordering
rank_cmp a b = ordering_then (bool_cmp a.partly b.partly) (ordering_then (nat_cmp b.time a.time) (slice_cmp nat_cmp a.name b.name))

-- the rank of a group: whether a time is unknown, the sum of those that are known, and the name
abbrev pub rank_of : Times → Ids → List ℕ → Rank
rank_of times ids name = record { partly = not (are_all_known times ids); time = known_time times ids; name = name }

-- a share has less to do: less time, or as much and fewer ids
abbrev pub has_less : Times → Ids → Ids → Bool
has_less times a b = nat_lt (known_time times a) (known_time times b) || ((known_time times a == known_time times b) && nat_lt (length a) (length b))

-- the index of the first share than which none has less: the first one, if none behind it has less
abbrev pub least_share : Times → List Ids → ℕ
least_share times [] = 0
least_share times (share ∷ shares) = if list_any (λ other. has_less times other share) shares then suc (least_share times shares) else 0

-- the group goes to the share with this index, behind what came to it before
abbrev pub with_group : List Ids → ℕ → Ids → List Ids
with_group shares index group = slice_set shares index (slice_index_or shares index [] ++ group)

-- each group goes to the share that has least when it comes
abbrev pub given_to_least : Times → List Ids → List Ids → List Ids
given_to_least times shares [] = shares
given_to_least times shares (group ∷ groups) = given_to_least times (with_group shares (least_share times shares) group) groups

-- the groups go to the shares in turn, from the share with this index on
abbrev pub given_in_turn : List Ids → ℕ → List Ids → List Ids
given_in_turn shares turn [] = shares
given_in_turn shares turn (group ∷ groups) = given_in_turn (with_group shares (turn % length shares) group) (turn + 1) groups

-- the group of this name has some known time
abbrev pub has_time : Times → (List ℕ → Ids) → List ℕ → Bool
has_time times group name = is_some_known times (group name)

-- where `names` are those of all groups, in the order of their bytes, and `group` gives the ids of each
module _ (times : Times) (group : List ℕ → Ids) (names : List (List ℕ)) where
  -- the ranks of the groups with some known time, in their order
  abbrev pub ranks : List Rank
  ranks = in_order rank_cmp (map (λ name. rank_of times (group name) name) (filter (has_time times group) names))

  -- the groups with some known time, in the order of their ranks
  abbrev pub timed_groups : List Ids
  timed_groups = map (λ rank. group rank.name) ranks

  -- the groups without a known time, in the order of their names
  abbrev pub untimed_groups : List Ids
  untimed_groups = map group (filter (λ name. not (has_time times group name)) names)

  -- the shares of so many workers: first the groups with some known time, and then the others in turn
  abbrev pub dealt : ℕ → List Ids
  dealt workers = given_in_turn (given_to_least times (replicate workers []) timed_groups) 0 untimed_groups

-- the shares of so many workers, where this function names the group of an id
abbrev pub shares_of : Times → (List ℕ → List ℕ) → Ids → ℕ → List Ids
shares_of times name_of ids workers = dealt times (members name_of ids) (group_names name_of ids) workers
