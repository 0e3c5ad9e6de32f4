-- Which names are those of runs (docs/DISK.md, "Files of a store").
use Rattle.std.specs.Prelude.{◌≡◌, ℕ, ◌<◌, Bool, true, List}
use Rattle.std.specs.Fmt.{decimal}
use Rattle.run_shelf.specs.Repository.{run_name, most_runs}

-- the name is that of the run of this number and kind
pub record SpellsRun (name : List ℕ) (number : ℕ) (partial : Bool) : Type 0 where
  pub few : number < most_runs
  pub is : name ≡ run_name number partial

-- the name is that of no run
abbrev pub SpellsNoRun : List ℕ → Type 0
SpellsNoRun name = (number : ℕ) (partial : Bool) → SpellsRun name number partial → ⊥

-- the name is that of the run of this number and kind, which is a partial one where so many are old and this is one of them
pub record CountsRun (old : ℕ) (name : List ℕ) (number : ℕ) (partial : Bool) : Type 0 where
  pub spells : SpellsRun name number partial
  pub counts : number < old → partial ≡ true

-- the name is that of no such run
abbrev pub CountsNoRun : ℕ → List ℕ → Type 0
CountsNoRun old name = (number : ℕ) (partial : Bool) → CountsRun old name number partial → ⊥

-- the digits are those of this number, which a run can have
pub record SpellsRunNumber (digits : List ℕ) (number : ℕ) : Type 0 where
  pub few : number < most_runs
  pub is : digits ≡ decimal number

-- the digits are those of no run's number
abbrev pub SpellsNoRunNumber : List ℕ → Type 0
SpellsNoRunNumber digits = (number : ℕ) → SpellsRunNumber digits number → ⊥
