-- What the steps of keeping a file do to the folder.
use Rattle.std.specs.Prelude.{◌≡◌, ◌⊎◌, ℕ, Option, Some, List, length}
use Rattle.std.specs.Option.{option_map}
use Rattle.edge_io.specs.Disk.{Draft, Folder}
use Rattle.run_shelf.specs.declared.faults.ShelfCall.{ShelfCall}
use Rattle.run_shelf.specs.declared.faults.ShelfCall.TheVariants.{Names, Length, ReadAt, StartDraft, Append, SyncDraft, Publish, SyncFolder}
use Rattle.run_shelf.specs.Images.{SameDisk, ReadsFile}

-- the bytes of the draft, where there is one
abbrev pub drafted : Folder → Option (List ℕ)
drafted s = option_map (λ draft. draft.bytes) s.draft

-- there is a draft, and with its bytes the step is this one
pub record OfDraft (step : List ℕ → Folder → Folder → Type 0) (s t : Folder) : Type 0 where
  pub bytes : List ℕ
  pub are : drafted s ≡ Some bytes
  pub does : step bytes s t

-- the draft holds these bytes, none of them on the disk for sure, and nothing else has changed
abbrev pub Writes : List ℕ → Folder → Folder → Type 0
Writes bytes s t = t ≡ record s { draft = Some (record { bytes = bytes; synced = 0 }) }

-- a draft that is wholly on the disk
abbrev pub whole_draft : List ℕ → Draft
whole_draft bytes = record { bytes = bytes; synced = length bytes }

-- the draft holds these bytes, all of them on the disk, and nothing else has changed
abbrev pub Drafts : List ℕ → Folder → Folder → Type 0
Drafts bytes s t = t ≡ record s { draft = Some (whole_draft bytes) }

-- nothing but the draft has changed
pub record SameButDraft (s t : Folder) : Type 0 where
  pub disk : t.disk ≡ s.disk
  pub past : t.past ≡ s.past

-- this call of the draft failed
abbrev pub DraftFails : ShelfCall → Folder → Folder → Type 0
DraftFails StartDraft s t = SameButDraft s t
DraftFails Append s t = SameButDraft s t
DraftFails SyncDraft s t = ⊥
DraftFails Names s t = ⊥
DraftFails Length s t = ⊥
DraftFails ReadAt s t = ⊥
DraftFails Publish s t = ⊥
DraftFails SyncFolder s t = ⊥

-- The draft was to become a file of this name and these bytes, and this call failed. Before the publish the files are as
-- they were; at it the file is there or not; after it the file is there.
abbrev pub PlaceFails : List ℕ → List ℕ → ShelfCall → Folder → Folder → Type 0
PlaceFails name bytes Names s t = ⊥
PlaceFails name bytes Length s t = ⊥
PlaceFails name bytes ReadAt s t = ⊥
PlaceFails name bytes StartDraft s t = ⊥
PlaceFails name bytes Append s t = ⊥
PlaceFails name bytes SyncDraft s t = SameDisk s t
PlaceFails name bytes Publish s t = SameDisk s t ⊎ ReadsFile name bytes s t
PlaceFails name bytes SyncFolder s t = ReadsFile name bytes s t
