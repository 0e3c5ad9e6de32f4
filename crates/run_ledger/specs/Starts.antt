-- From which run on the failing set is told.
use Rattle.std.specs.Prelude.{◌≡◌, ◌⊎◌, ℕ, ◌<◌, Bool, false, Some, List, slice_get}

-- the number of the last full run
pub record IsLastFull (kinds : List Bool) (number : ℕ) : Type 0 where
  pub full : slice_get kinds number ≡ Some false
  pub last : (other : ℕ) → number < other → slice_get kinds other ≡ Some false → ⊥

-- no run is full
abbrev pub AreAllPartial : List Bool → Type 0
AreAllPartial kinds = (number : ℕ) → slice_get kinds number ≡ Some false → ⊥

-- the number of the last full run, or 0 where no run is full
pub record IsStart (kinds : List Bool) (number : ℕ) : Type 0 where
  pub full : (number ≡ 0) ⊎ (slice_get kinds number ≡ Some false)
  pub last : (other : ℕ) → number < other → slice_get kinds other ≡ Some false → ⊥
