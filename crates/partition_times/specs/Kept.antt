-- What any sharing out of groups keeps: each group stays whole, and no id is lost or repeated.
use Rattle.std.specs.Prelude.{◌≡◌, ℕ, ◌<◌, ◌==◌, List, [], length, slice_index_or, if◌then◌else◌}
use Rattle.std.specs.List.{count_by, sum_by}
use Rattle.std.specs.Str.{bytes_eq}
use Rattle.partition_times.specs.Names.{members}
use Rattle.partition_times.specs.Shares.{Ids}

-- the ids of the group of this name stand in one share, in their order, and none of them in another
abbrev pub StandsInOne : (List ℕ → List ℕ) → Ids → List Ids → List ℕ → Type 0
StandsInOne name_of ids shares name =
    (one : ℕ) × (one < length shares)
    × ((k : ℕ) → members name_of (slice_index_or shares k []) name ≡ (if k == one then members name_of ids name else []))

-- each id stands in the shares as often as among the ids
abbrev pub StandsAsOften : Ids → List Ids → List ℕ → Type 0
StandsAsOften ids shares id = sum_by (λ share. count_by (bytes_eq id) share) shares ≡ count_by (bytes_eq id) ids
