-- What stands in the queue of shares while groups are given to them.
use Rattle.std.specs.Prelude.{◌≡◌, ℕ, ◌<◌, ◌≤◌, ◌*◌, ◌^◌, ◌⊎◌, List, [], ◌∷◌, length, slice_index_or}
use Rattle.std.specs.List.{AllByRecursion}
use Rattle.std.specs.Ordering.{nat_cmp, ordering_then}
use Rattle.std.specs.declared.cmp.Ordering.{Ordering}
use Rattle.partition_times.specs.Shares.{Ids, Times, known_time}
use Rattle.partition_times.specs.declared.shares.Load.{Load}

-- what the share with this index has to do
abbrev pub load_at : Times → List Ids → ℕ → Load
load_at times shares index = record { time = known_time times (slice_index_or shares index []); count = length (slice_index_or shares index []); index = index }

-- the least time comes first, of equal ones the fewest ids, and of those the first share
abbrev pub load_cmp : Load → Load → Ordering
load_cmp a b = ordering_then (nat_cmp a.time b.time) (ordering_then (nat_cmp a.count b.count) (nat_cmp a.index b.index))

-- the queue has this load
abbrev pub Has : List Load → Load → Type 0
Has [] load = ⊥
Has (first ∷ queue) load = (first ≡ load) ⊎ Has queue load

-- it is the load of a share, and its time fits its count
pub record IsLoad (times : Times) (shares : List Ids) (load : Load) : Type 0 where
  pub in_range : load.index < length shares
  pub is : load ≡ load_at times shares load.index
  pub small : load.time ≤ load.count * 2 ^ 64

-- the queue has the load of each share, and no other
pub record IsQueue (times : Times) (shares : List Ids) (queue : List Load) : Type 0 where
  pub each : AllByRecursion (IsLoad times shares) queue
  pub whole : (index : ℕ) → index < length shares → Has queue (load_at times shares index)
