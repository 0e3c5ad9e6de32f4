-- What a stop at a moment may leave of a repository (docs/DISK.md, the shelf).
use Rattle.std.specs.Prelude.{◌≡◌, ◌⊎◌, ℕ, None, List, [], ◌∷◌, ◌++◌, length}
use Rattle.edge_io.specs.Disk.{Files, put, Folder, IsImage, at_rest}
use Rattle.edge_io.specs.Moments.{LeavesOnly, Passes}
use Rattle.run_shelf.specs.Repository.{Run, run_name, Shows, IsRepository, format_name, format_bytes}

-- all that is published is on the disk for good
abbrev pub AtRest : Folder → Type 0
AtRest s = s.disk ≡ at_rest s.disk.published

-- The files and one run more, which is the run behind all others. Nothing else differs.
pub record HasRunBeside (files : Files) (number : ℕ) (run : Run) (image : Files) : Type 0 where
  pub is : image ≡ put files (run_name number run.partial) run.bytes
  pub repository : IsRepository image
  pub counts : (runs : List Run) → Shows files runs → number ≡ length runs
  pub shows : (runs : List Run) → Shows files runs → Shows image (runs ++ run ∷ [])

-- There was no file `format`, and the image is the files with it beside them. Nothing else differs.
pub record HasFormatBeside (files image : Files) : Type 0 where
  pub absent : files format_name ≡ None
  pub is : image ≡ put files format_name format_bytes

-- a stop at each moment leaves what one at the first might have left
abbrev pub PassesOld : Folder → Folder → Type 0
PassesOld s t = Passes (IsImage s.disk) s t

-- the same, or the files as read at the first moment with the run beside them
abbrev pub PassesRun : ℕ → Run → Folder → Folder → Type 0
PassesRun number run s t = Passes (λ image. IsImage s.disk image ⊎ HasRunBeside s.disk.published number run image) s t

-- the same, or the files as read at the first moment with `format` beside them
abbrev pub PassesFormat : Folder → Folder → Type 0
PassesFormat s t = Passes (λ image. IsImage s.disk image ⊎ HasFormatBeside s.disk.published image) s t

-- the same for any file
abbrev pub PassesFile : List ℕ → List ℕ → Folder → Folder → Type 0
PassesFile name bytes s t = Passes (λ image. IsImage s.disk image ⊎ (image ≡ put s.disk.published name bytes)) s t

-- the file is on the disk for good, beside those from before
abbrev pub KeepsFile : List ℕ → List ℕ → Folder → Folder → Type 0
KeepsFile name bytes s t = t.disk ≡ at_rest (put s.disk.published name bytes)

-- the run is on the disk for good, and each later stop leaves it
pub record KeepsRun (number : ℕ) (run : Run) (s t : Folder) : Type 0 where
  pub disk : t.disk ≡ at_rest (put s.disk.published (run_name number run.partial) run.bytes)
  pub lasts : LeavesOnly (HasRunBeside s.disk.published number run) t.disk

-- there was no `format`, it is on the disk for good, and each later stop leaves it
pub record MakesRepository (s t : Folder) : Type 0 where
  pub absent : s.disk.published format_name ≡ None
  pub disk : t.disk ≡ at_rest (put s.disk.published format_name format_bytes)
  pub lasts : LeavesOnly (HasFormatBeside s.disk.published) t.disk

-- the file is read, whether it is on the disk for good or not
abbrev pub ReadsFile : List ℕ → List ℕ → Folder → Folder → Type 0
ReadsFile name bytes s t = t.disk.published ≡ put s.disk.published name bytes

-- the disk stays as it was
abbrev pub SameDisk : Folder → Folder → Type 0
SameDisk s t = t.disk ≡ s.disk
