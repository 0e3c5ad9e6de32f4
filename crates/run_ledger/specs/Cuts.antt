-- Pieces of a cache's file (docs/FORMATS.md, "Caches").
use Rattle.std.specs.Prelude.{◌≡◌, ℕ, ◌<◌, ◌^◌, Option, Some, None, IfSome, List, [], ◌∷◌, ◌++◌, map, All}
use Rattle.std.specs.List.{flat_map}
use Rattle.std.specs.List.Sorted.{IsStrictlySortedBy}
use Rattle.std.specs.FinMap as fin
use Rattle.std.specs.FinMap.{FinMap}
use Rattle.outcome_fold.specs.Order.{text_cmp}
use Rattle.run_shelf.specs.IdFiles.{Lacks}
use Rattle.run_ledger.specs.Caches.{time_entry, IsTimed}

-- an id without a zero byte and a number below 2^64, a zero byte behind each, and the rest
pub record BeginsWithTime (bytes id : List ℕ) (nanos : ℕ) (rest : List ℕ) : Type 0 where
  pub is : bytes ≡ time_entry (id, nanos) ++ rest
  pub plain : Lacks 0 id
  pub small : nanos < 2 ^ 64

-- the bytes are the ids of these times in order, each with its time, and a zero byte behind each
pub record AreTimeEntries (bytes : List ℕ) (times : FinMap text_cmp ℕ) : Type 0 where
  pub is : bytes ≡ flat_map time_entry (fin.entries times)
  pub each : All IsTimed (fin.entries times)

-- the last of these ids
abbrev pub last_id : List (List ℕ × ℕ) → Option (List ℕ)
last_id [] = None
last_id (timed ∷ []) = Some timed.0
last_id (timed ∷ next ∷ more) = last_id (next ∷ more)

-- the bytes so far are entries in order, whose times and whose last id these are
pub record HasTimed (bytes rest : List ℕ) (times : FinMap text_cmp ℕ) (last : Option (List ℕ)) : Type 0 where
  pub entries : List (List ℕ × ℕ)
  pub is : bytes ≡ flat_map time_entry entries ++ rest
  pub each : All IsTimed entries
  pub ordered : IsStrictlySortedBy text_cmp (map (λ timed. timed.0) entries)
  pub made : times ≡ fin.from_entries entries
  pub at : last ≡ last_id entries

-- the entry of an id that has this time, and nothing where it has none
abbrev pub entry_if_timed : List ℕ → Option ℕ → List ℕ
entry_if_timed id None = []
entry_if_timed id (Some nanos) = time_entry (id, nanos)

-- the entry of an id in a table of times, and nothing where it has no time
abbrev pub entry_at : FinMap text_cmp ℕ → List ℕ → List ℕ
entry_at times id = entry_if_timed id (fin.get times id)

-- the id is a text, and its time, where it has one, is small enough
abbrev pub IsTimedAt : FinMap text_cmp ℕ → List ℕ → Type 0
IsTimedAt times id = IfSome (fin.get times id) (λ nanos. IsTimed (id, nanos))
