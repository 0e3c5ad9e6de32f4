-- What each worker runs (docs/COMMANDS.md, and docs/FORMATS.md, "Shares" and "Shards").
use Rattle.std.specs.Prelude.{ℕ, suc, ◌-◌, ◌==◌, Bool, not, List, [], ◌∷◌, length, map, Option, None, Some, slice_index_or, if◌then◌else◌}
use Rattle.std.specs.List.{filter, range_with_len}
use Rattle.partition_times.specs.Names.{group_of}
use Rattle.partition_times.specs.Shares.{Ids, Times, shares_of}
use Rattle.testr_words.specs.Shards.{NumberedShard}

-- there is an id among them
abbrev pub has_ids : Ids → Bool
has_ids ids = not (length ids == 0)

-- one worker has all ids in their order; several have the shares of the groups by their known times
abbrev pub dealt_among : Times → Option (List ℕ) → Ids → ℕ → List Ids
dealt_among times groups ids workers = if workers == 1 then ids ∷ [] else shares_of times (group_of groups) ids workers

-- the shares for which a worker is started, in order: those that are not empty
abbrev pub shares_for : Times → Option (List ℕ) → Ids → ℕ → List Ids
shares_for times groups ids workers = filter has_ids (dealt_among times groups ids workers)

-- ---- shards

-- The ids of a shard, in the order in which they came to it: of the shares of so many workers the one of its number. Where no
-- shard is wanted they are all ids.
abbrev pub ids_of_shard : Times → Option (List ℕ) → Option NumberedShard → Ids → Ids
ids_of_shard times groups None ids = ids
ids_of_shard times groups (Some part) ids = slice_index_or (dealt_among times groups ids part.count) (part.number - 1) []

-- the shards of so many, from the first on
abbrev pub shards_of : Times → Option (List ℕ) → Ids → ℕ → List Ids
shards_of times groups ids count = map (λ place. ids_of_shard times groups (Some (record { number = suc place; count = count })) ids) (range_with_len 0 count)
