-- What a reader has of a run of a folder that is read in pieces.
use Rattle.std.specs.Prelude.{◌≡◌, ℕ, ◌≤◌, List, ◌++◌, take, drop, length, IsSomeAnd}
use Rattle.edge_io.specs.Disk.{Folder}
use Rattle.run_shelf.specs.Repository.{Run, run_at}
use Rattle.run_ledger.specs.declared.run_reader.RunReader.{RunReader}
use Rattle.run_ledger.specs.Reading.{HasReadBytes}

-- the first bytes of a run, up to that place, which is not past its end
abbrev pub HasFront : ℕ → RunReader → Run → Type 0
HasFront place reader run = (place ≤ length run.bytes) × HasReadBytes reader (take place run.bytes)

-- the same of the run of this number, which there is
abbrev pub HasReadTo : ℕ → ℕ → RunReader → Folder → Type 0
HasReadTo number place reader s = IsSomeAnd (run_at s.disk.published number) (HasFront place reader)

-- the bytes of a run from this place on, as many as there are and fit, came behind those before
pub record TakesRunPiece (place room count : ℕ) (old new : RunReader) (run : Run) : Type 0 where
  pub size : count ≡ length (take room (drop place run.bytes))
  pub read : (front : List ℕ) → HasReadBytes old front → HasReadBytes new (front ++ take room (drop place run.bytes))

-- the same of the run of this number, which there is
abbrev pub ReadsOn : ℕ → ℕ → ℕ → ℕ → RunReader → RunReader → Folder → Type 0
ReadsOn number place room count old new s = IsSomeAnd (run_at s.disk.published number) (TakesRunPiece place room count old new)

-- all of the run of this number, which there is
abbrev pub HasReadWhole : ℕ → RunReader → Folder → Type 0
HasReadWhole number reader s = IsSomeAnd (run_at s.disk.published number) (λ run. HasReadBytes reader run.bytes)
