-- What the runs of a repository say together (docs/FORMATS.md, "What the runs say together").
use Rattle.std.specs.Prelude.{◌≡◌, ⊤, ℕ, Bool, List, [], ◌∷◌, ◌++◌, ◌≤◌, drop, IsSomeAnd, if◌then◌else◌}
use Rattle.std.specs.Option.{unwrap_or}
use Rattle.std.specs.FinMap as fin
use Rattle.std.specs.FinMap.{FinMap}
use Rattle.edge_io.specs.Disk.{Files, Folder}
use Rattle.outcome_fold.specs.declared.row.Row.{Row}
use Rattle.outcome_fold.specs.Order.{text_cmp, in_byte_order, table}
pub use Rattle.outcome_fold.specs.Order.{without}
use Rattle.outcome_fold.specs.Answers.{failing_of, passed_of, times_of}
use Rattle.run_shelf.specs.Bases.{Base}
use Rattle.run_shelf.specs.Repository.{Run, run_at, Shows, base_of}
use Rattle.run_ledger.specs.Reading.{AreRowsOf}

-- a run, which is partial or full, and its rows
pub record RunRows : Type 0 where
  pub partial : Bool
  pub rows : List Row

-- the rows are those of the run's bytes
pub record IsRunRows (run : Run) (entry : RunRows) : Type 0 where
  pub kind : entry.partial ≡ run.partial
  pub rows : AreRowsOf run.bytes entry.rows

-- the same of each run, in order
abbrev pub AreRunRows : List Run → List RunRows → Type 0
AreRunRows [] [] = ⊤
AreRunRows [] (entry ∷ entries) = ⊥
AreRunRows (run ∷ runs) [] = ⊥
AreRunRows (run ∷ runs) (entry ∷ entries) = IsRunRows run entry × AreRunRows runs entries

-- the runs that the files show have these rows
pub record ShowRows (files : Files) (entries : List RunRows) : Type 0 where
  pub runs : List Run
  pub shown : Shows files runs
  pub are : AreRunRows runs entries

-- the rows of the run of this number, which there is
abbrev pub HasRowsAt : ℕ → List Row → Folder → Type 0
HasRowsAt number rows s = IsSomeAnd (run_at s.disk.published number) (λ run. AreRowsOf run.bytes rows)

-- The same of a run that the base does not count.
pub record HasNewRows (number : ℕ) (rows : List Row) (s : Folder) : Type 0 where
  pub are : HasRowsAt number rows s
  pub behind : (base_of s.disk.published).count ≤ number

-- The failing set after one run more. A full run replaces it by the ids that fail in it. A partial run takes the ids out
-- that passed in it, and adds those that fail.
abbrev pub failing_behind : List (List ℕ) → RunRows → List (List ℕ)
failing_behind earlier entry =
    if entry.partial then in_byte_order (without earlier (passed_of entry.rows) ++ failing_of entry.rows) else failing_of entry.rows

-- the failing set behind these runs, where this was the set before them
abbrev pub failing_from : List (List ℕ) → List RunRows → List (List ℕ)
failing_from earlier [] = earlier
failing_from earlier (entry ∷ entries) = failing_from (failing_behind earlier entry) entries

-- the failing set of all runs, in the order of its bytes, each id once: that of the base, which the runs behind it change
abbrev pub failing_after : Base → List RunRows → List (List ℕ)
failing_after base entries = failing_from base.ids (drop base.count entries)

-- the ids' times, where the later ones replace the earlier ones
abbrev pub replaced : FinMap text_cmp ℕ → FinMap text_cmp ℕ → FinMap text_cmp ℕ
replaced earlier later =
    table {R = text_cmp} (λ id. unwrap_or (fin.get later id) (unwrap_or (fin.get earlier id) 0)) (fin.keys earlier ++ fin.keys later)

-- the times behind these runs, where these were the times before them
abbrev pub times_from : FinMap text_cmp ℕ → List RunRows → FinMap text_cmp ℕ
times_from earlier [] = earlier
times_from earlier (entry ∷ entries) = times_from (replaced earlier (times_of entry.rows)) entries

-- the time of each id of all runs: that of the last run where it has one
abbrev pub times_after : List RunRows → FinMap text_cmp ℕ
times_after entries = times_from fin.empty entries

-- the failing set of the runs that the folder shows
abbrev pub IsFailingSet : List (List ℕ) → Folder → Type 0
IsFailingSet ids s = (entries : List RunRows) × ShowRows s.disk.published entries × (ids ≡ failing_after (base_of s.disk.published) entries)

-- the times of the runs that the folder shows
abbrev pub AreTimes : FinMap text_cmp ℕ → Folder → Type 0
AreTimes times s = (entries : List RunRows) × ShowRows s.disk.published entries × (times ≡ times_after entries)
