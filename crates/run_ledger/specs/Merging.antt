-- Times as the bytes of a cache's entries, and the times of one run merged into them (docs/FORMATS.md, "Caches").
use Rattle.std.specs.Prelude.{◌≡◌, ℕ, List, [], ◌∷◌, ◌++◌, map, All, if◌then◌else◌}
use Rattle.std.specs.FinMap as fin
use Rattle.std.specs.FinMap.{FinMap}
use Rattle.std.specs.List.{flat_map}
use Rattle.std.specs.Option.{unwrap_or}
use Rattle.std.specs.Ordering.{is_lt, is_eq}
use Rattle.std.specs.Str.Parse.{digits_value}
use Rattle.outcome_fold.specs.declared.row.Row.{Row}
use Rattle.outcome_fold.specs.Order.{text_cmp}
use Rattle.outcome_fold.specs.Answers.{timed_rows}
use Rattle.run_shelf.specs.Bases.{zero_ended_pieces}
use Rattle.run_ledger.specs.Caches.{time_entry, IsTimed}

-- each first one of two is an id, and the second one spells its time
abbrev pub in_pairs : List (List ℕ) → List (List ℕ × ℕ)
in_pairs [] = []
in_pairs (id ∷ []) = []
in_pairs (id ∷ digits ∷ more) = (id, digits_value 10 digits) ∷ in_pairs more

-- the times that entries hold, told by their bytes
unfoldable pub times_in : List ℕ → FinMap text_cmp ℕ
times_in bytes = fin.from_entries (in_pairs (zero_ended_pieces bytes))

-- the bytes are these entries, one after another
pub record AreEntriesOfTimes (bytes : List ℕ) (entries : List (List ℕ × ℕ)) : Type 0 where
  pub is : bytes ≡ flat_map time_entry entries
  pub each : All IsTimed entries

-- the first of the entries has this id, and these bytes are those behind it
abbrev pub BeginsWithEntry : (id behind : List ℕ) → List (List ℕ × ℕ) → Type 0
BeginsWithEntry id behind [] = ⊥
BeginsWithEntry id behind (one ∷ more) = (one.0 ≡ id) × AreEntriesOfTimes behind more

-- the ids of the rows of tests that ran and have a time, each with it, in the order of the rows
abbrev pub timed_of : List Row → List (List ℕ × ℕ)
timed_of rows = map (λ row. (row.id, unwrap_or row.nanos 0)) (timed_rows rows)

-- the first entries whose ids are below this one
abbrev pub below : List ℕ → List (List ℕ × ℕ) → List (List ℕ × ℕ)
below id [] = []
below id (one ∷ more) = if is_lt (text_cmp one.0 id) then one ∷ below id more else []

-- the entries from the first on whose id is not below this one
abbrev pub not_below : List ℕ → List (List ℕ × ℕ) → List (List ℕ × ℕ)
not_below id [] = []
not_below id (one ∷ more) = if is_lt (text_cmp one.0 id) then not_below id more else one ∷ more

-- the entries behind one of this id, where they begin with one
abbrev pub past : List ℕ → List (List ℕ × ℕ) → List (List ℕ × ℕ)
past id [] = []
past id (one ∷ more) = if is_eq (text_cmp one.0 id) then more else one ∷ more

-- The later entries among the earlier ones, in order: each stands behind the earlier ones below it, in place of an earlier
-- one of its id.
abbrev pub merged : List (List ℕ × ℕ) → List (List ℕ × ℕ) → List (List ℕ × ℕ)
merged earlier [] = earlier
merged earlier (one ∷ more) = below one.0 earlier ++ one ∷ merged (past one.0 (not_below one.0 earlier)) more
