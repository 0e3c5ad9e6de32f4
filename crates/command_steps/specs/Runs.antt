-- Runs as the commands speak of them.
use Rattle.std.specs.Prelude.{◌≡◌, ℕ, Bool, List, [], ◌∷◌, ◌++◌, length}
use Rattle.std.specs.List.{flat_map}
use Rattle.edge_io.specs.Disk.{Files, Folder}
use Rattle.edge_io.specs.Moments.{LeavesOnly}
use Rattle.packet_codec.specs.declared.event.Event.{Event}
use Rattle.packet_codec.specs.Canonical.{canonical}
use Rattle.run_shelf.specs.Images.{HasRunBeside}
use Rattle.run_shelf.specs.Repository.{Run, run_of, Shows, IsRepository, HasKinds}
use Rattle.run_shelf.specs.Sides.{SameButCaches}

-- the bytes of a run of these events
abbrev pub run_bytes : List Event → List ℕ
run_bytes events = flat_map canonical events

-- the folder is a repository with so many runs
pub record HasRuns (number : ℕ) (s : Folder) : Type 0 where
  pub repository : IsRepository s.disk.published
  pub kinds : List Bool
  pub kinds_are : HasKinds s.disk.published kinds
  pub count : number ≡ length kinds

-- The files and one run more, which is the run behind all others. Of other files only those of the caches may differ.
pub record HasRunAndCaches (files : Files) (number : ℕ) (run : Run) (image : Files) : Type 0 where
  pub between : Files
  pub beside : HasRunBeside files number run between
  pub but : SameButCaches between image

-- reads of the folder give the same files
abbrev pub KeepsFiles : Folder → Folder → Type 0
KeepsFiles s t = t.disk.published ≡ s.disk.published

-- a repository stays one
abbrev pub KeepsRepository : Folder → Folder → Type 0
KeepsRepository s t = IsRepository s.disk.published → IsRepository t.disk.published

-- the runs shown before are shown after
abbrev pub KeepsRuns : Folder → Folder → Type 0
KeepsRuns s t = (runs : List Run) → Shows s.disk.published runs → Shows t.disk.published runs

-- the runs, with one more of these events
abbrev pub with_run : Bool → List Run → List Event → List Run
with_run partial runs events = runs ++ run_of partial (run_bytes events) ∷ []

-- Whatever runs the folder showed, it shows one more, and so does what each later stop leaves.
abbrev pub AddsRun : Bool → List Event → Folder → Folder → Type 0
AddsRun partial events s t = (runs : List Run) → Shows s.disk.published runs → Shows t.disk.published (with_run partial runs events) × LeavesOnly (λ image. Shows image (with_run partial runs events)) t.disk
