-- What the calls of a store do to the folder, by what they answer (docs/DISK.md, "Files of a store").
use Rattle.std.specs.Prelude.{◌≡◌, ◌⊎◌, ℕ, ◌+◌, ◌≤◌, Bool, None, IsSome, IsSomeAnd, List, length}
use Rattle.edge_io.specs.Causes.{one_more}
use Rattle.edge_io.specs.Disk.{Folder, at_rest}
use Rattle.edge_io.specs.Steps.{Stays, Settled, IsPart}
use Rattle.run_shelf.specs.declared.faults.ShelfCall.{ShelfCall}
use Rattle.run_shelf.specs.declared.faults.ShelfCall.TheVariants.{Names, Length, ReadAt, StartDraft, Append, SyncDraft, Publish, SyncFolder}
use Rattle.run_shelf.specs.declared.faults.InitFault.{InitFault}
use Rattle.run_shelf.specs.declared.faults.InitFault.TheVariants as init_fault
use Rattle.run_shelf.specs.declared.faults.OpenFault.{OpenFault}
use Rattle.run_shelf.specs.declared.faults.OpenFault.TheVariants as open_fault
use Rattle.run_shelf.specs.Holds.{FitsFolder}
use Rattle.run_shelf.specs.Images.{SameDisk, ReadsFile}
use Rattle.run_shelf.specs.Repository.{run_at, format_name, format_bytes, HasFormat, HasOtherFormat, HasBadBase, IsGap}

-- A file was to be kept in a folder at rest, and this call failed. Before the publish the files are as they were; at it
-- the file is there or not; after it the file is there.
abbrev pub KeepFails : List ℕ → List ℕ → ShelfCall → Folder → Folder → Type 0
KeepFails name bytes Names s t = ⊥
KeepFails name bytes Length s t = ⊥
KeepFails name bytes ReadAt s t = ⊥
KeepFails name bytes StartDraft s t = SameDisk s t
KeepFails name bytes Append s t = SameDisk s t
KeepFails name bytes SyncDraft s t = SameDisk s t
KeepFails name bytes Publish s t = SameDisk s t ⊎ ReadsFile name bytes s t
KeepFails name bytes SyncFolder s t = ReadsFile name bytes s t

-- there was no `format`, and the files are on the disk for good as they were read
pub record StillLacksFormat (s t : Folder) : Type 0 where
  pub absent : s.disk.published format_name ≡ None
  pub disk : t.disk ≡ at_rest s.disk.published

-- there was no `format`, and reads give it beside the files as they were
pub record ReadsFormat (s t : Folder) : Type 0 where
  pub absent : s.disk.published format_name ≡ None
  pub reads : ReadsFile format_name format_bytes s t

-- A repository was not made, or not surely, and this call failed: the first barrier, the look whether there is one, or a
-- call that was to keep `format`.
abbrev pub InitFailsAt : ShelfCall → Folder → Folder → Type 0
InitFailsAt Names s t = ⊥
InitFailsAt Length s t = Settled s t
InitFailsAt ReadAt s t = ⊥
InitFailsAt StartDraft s t = StillLacksFormat s t
InitFailsAt Append s t = StillLacksFormat s t
InitFailsAt SyncDraft s t = StillLacksFormat s t
InitFailsAt Publish s t = StillLacksFormat s t ⊎ ReadsFormat s t
InitFailsAt SyncFolder s t = Stays s t ⊎ ReadsFormat s t

-- there was a repository, or this call failed
abbrev pub InitFails : InitFault → Folder → Folder → Type 0
InitFails init_fault.Exists s t = IsSome (s.disk.published format_name) × Settled s t
InitFails (init_fault.Shelf call) s t = InitFailsAt call s t

-- the files are a repository with runs of these kinds, and all is on the disk for good
pub record Surveys (kinds : List Bool) (s t : Folder) : Type 0 where
  pub settled : Settled s t
  pub fits : FitsFolder kinds t

-- the first barrier failed, or it brought all to the disk
abbrev pub FailsAt : ShelfCall → Folder → Folder → Type 0
FailsAt SyncFolder s t = Stays s t
FailsAt Names s t = Settled s t
FailsAt Length s t = Settled s t
FailsAt ReadAt s t = Settled s t
FailsAt StartDraft s t = ⊥
FailsAt Append s t = ⊥
FailsAt SyncDraft s t = ⊥
FailsAt Publish s t = ⊥

-- why the folder is not taken for a repository
abbrev pub OpenFails : OpenFault → Folder → Folder → Type 0
OpenFails open_fault.NoStore s t = (s.disk.published format_name ≡ None) × Settled s t
OpenFails open_fault.UnknownFormat s t = HasOtherFormat s.disk.published × Settled s t
OpenFails open_fault.BadBase s t = (HasFormat s.disk.published × HasBadBase s.disk.published) × Settled s t
OpenFails (open_fault.Gap number) s t = (HasFormat s.disk.published × IsGap s.disk.published number) × Settled s t
OpenFails (open_fault.Shelf call) s t = FailsAt call s t
OpenFails open_fault.NoMemory s t = Settled s t

-- the length of the run of this number, which there is
abbrev pub IsRunLength : ℕ → ℕ → Folder → Type 0
IsRunLength number size s = IsSomeAnd (run_at s.disk.published number) (λ run. size ≡ length run.bytes)

-- the first bytes of the buffer are those of the run of this number, which there is, from that place on
abbrev pub IsRunPart : ℕ → ℕ → List ℕ → ℕ → Folder → Type 0
IsRunPart number place buf count s = IsSomeAnd (run_at s.disk.published number) (λ run. IsPart run.bytes place buf count)

-- at most one call
abbrev pub TicksAtMost : ℕ → ℕ → Type 0
TicksAtMost before now = (now ≡ before) ⊎ (now ≡ one_more before)

-- at most so many calls; a clock stands still at its last value
abbrev pub TicksUpTo : ℕ → ℕ → ℕ → Type 0
TicksUpTo calls before now = now ≤ before + calls
