-- What stands between groups and shares while they are ranked.
use Rattle.std.specs.Prelude.{◌≡◌, ℕ, ◌*◌, ◌^◌, ◌≤◌, List, map, length, All, Vec}
use Rattle.std.specs.List.{list_any, filter}
use Rattle.std.specs.Ordering.{eq_by_cmp}
use Rattle.std.specs.BTreeMap.{keys}
use Rattle.std.specs.declared.alloc.Global.{Global}
use Rattle.std.specs.BTreeMap.{BTreeMap}
use Rattle.std.specs.List.Sorted.{IsStrictlySortedBy}
use Rattle.std.specs.Ordering.{nat_cmp}
use Rattle.std.specs.Cmp.Lexicographic.{slice_cmp}
use Rattle.partition_times.specs.Gathered.{IdsByName}
use Rattle.partition_times.specs.Shares.{Ids, Times, Rank, rank_cmp, rank_of, known_time, has_time, untimed_groups}
use Rattle.partition_times.specs.declared.rank.Rank as code
use Rattle.partition_times.specs.declared.rank.Ranked.{Ranked}

-- the rank that the code keeps
abbrev pub plain_rank : code.Rank → Rank
plain_rank rank = record { partly = rank.partly; time = rank.time.0; name = rank.name.now }

-- the names of the lists, in their order
abbrev pub list_names : IdsByName → List (List ℕ)
list_names lists = map (λ e. e.0.now) lists.entries

-- each list is the group of its name
abbrev pub AreGroups : (List ℕ → Ids) → IdsByName → Type 0
AreGroups group lists = All (λ e. e.1.items ≡ group e.0.now) lists.entries

-- the ids are those of the rank's group, whose time the rank has
pub record IsGroupOfRank (times : Times) (group : List ℕ → Ids) (rank : Rank) (ids : Ids) : Type 0 where
  pub ids_are : ids ≡ group rank.name
  pub rank_is : rank ≡ rank_of times ids rank.name
  pub small : rank.time ≤ length ids * 2 ^ 64

-- the groups of these names are ranked
pub record AreRanked (times : Times) (group : List ℕ → Ids) (names : List (List ℕ)) (ranked : Ranked) : Type 0 where
  pub timed : All (λ e. IsGroupOfRank times group (plain_rank e.0) e.1.items) ranked.timed.entries
  pub ranks : (q : Rank) → list_any (eq_by_cmp rank_cmp q) (map plain_rank (keys ranked.timed)) ≡ list_any (eq_by_cmp rank_cmp q) (map (λ name. rank_of times (group name) name) (filter (has_time times group) names))
  pub untimed : map (λ list. list.items) ranked.untimed.items ≡ untimed_groups times group names

-- groups with some known time, by their ranks
abbrev pub TimedGroups : Type 0
TimedGroups = BTreeMap code.Rank (Vec (List ℕ) Global)

-- the time of each rank is that of its ids, and fits their number
abbrev pub AreKnown : Times → TimedGroups → Type 0
AreKnown times timed = All (λ e. (e.0.time.0 ≡ known_time times e.1.items) × (e.0.time.0 ≤ length e.1.items * 2 ^ 64)) timed.entries

-- the ids of each group
abbrev pub ids_by_group : TimedGroups → List Ids
ids_by_group timed = map (λ e. e.1.items) timed.entries

-- the names and the ranks are in order, each once
abbrev pub AreNamesInOrder : IdsByName → Type 0
AreNamesInOrder lists = IsStrictlySortedBy (λ x y. slice_cmp nat_cmp x.now y.now) (map (λ e. e.0) lists.entries)

-- each rank stands before those that come behind it, and none stands twice
abbrev pub AreRanksInOrder : TimedGroups → Type 0
AreRanksInOrder timed = IsStrictlySortedBy (λ x y. rank_cmp (plain_rank x) (plain_rank y)) (map (λ e. e.0) timed.entries)
