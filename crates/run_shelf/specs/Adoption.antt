-- A folder that the original tool began is taken over: its runs stand converted, then comes the base, and then the format
-- (docs/DISK.md, "Files of a store").
use Rattle.std.specs.Prelude.{◌≡◌, ◌≢◌, ◌⊎◌, ℕ, ◌<◌, ◌≤◌, Bool, true, None, Some, IsSome, List, [], ◌∷◌}
use Rattle.std.specs.Option.{option_map}
use Rattle.edge_io.specs.Disk.{Files, put, Folder, IsImage, at_rest}
use Rattle.edge_io.specs.Moments.{LeavesOnly, Passes}
use Rattle.run_shelf.specs.declared.faults.ShelfCall.{ShelfCall}
use Rattle.run_shelf.specs.declared.faults.ShelfCall.TheVariants.{Names, Length, ReadAt, StartDraft, Append, SyncDraft, Publish, SyncFolder}
use Rattle.run_shelf.specs.Bases.{base_name, base_in}
use Rattle.run_shelf.specs.Images.{AtRest}
use Rattle.run_shelf.specs.Repository.{run_of, run_at, run_name, partial_name, most_runs, format_name, based_format_bytes, base_of, IsRepository}

-- what `format` holds in a folder of the original tool
abbrev pub old_format_bytes : List ℕ
old_format_bytes = 49 ∷ 10 ∷ []

-- the folder is one of the original tool
abbrev pub IsOld : Files → Type 0
IsOld files = files format_name ≡ Some old_format_bytes

-- so many runs stand converted, as partial ones, and there is no file of a run behind them
pub record IsConverted (count : ℕ) (files : Files) : Type 0 where
  pub runs : (number : ℕ) → number < count → IsSome (files (partial_name number))
  pub behind : (number : ℕ) (partial : Bool) → count ≤ number → number < most_runs → files (run_name number partial) ≡ None

-- nothing is pending, and so many runs stand converted
pub record IsReadyToAdopt (count : ℕ) (s : Folder) : Type 0 where
  pub rest : AtRest s
  pub converted : IsConverted count s.disk.published

-- The files with this base beside them, and the second format. They are a repository of the runs that stood converted.
pub record IsAdopted (bytes : List ℕ) (files image : Files) : Type 0 where
  pub is : image ≡ put (put files base_name bytes) format_name based_format_bytes
  pub repository : IsRepository image
  pub base : base_of image ≡ base_in bytes
  pub runs : (number : ℕ) → number < most_runs → run_at image number ≡ option_map (run_of true) (files (partial_name number))

-- a base beside the files, whose format is as it was; or they were taken over
abbrev pub IsBeingAdopted : List ℕ → Files → Files → Type 0
IsBeingAdopted bytes files image = (image ≡ put files base_name bytes) ⊎ IsAdopted bytes files image

-- a stop at each moment leaves what one at the first might have left, or one of these
abbrev pub PassesAdoption : List ℕ → Folder → Folder → Type 0
PassesAdoption bytes s t = Passes (λ image. IsImage s.disk image ⊎ IsBeingAdopted bytes s.disk.published image) s t

-- the folder was taken over for good, and each later stop leaves it so
pub record Adopts (bytes : List ℕ) (s t : Folder) : Type 0 where
  pub disk : t.disk ≡ at_rest (put (put s.disk.published base_name bytes) format_name based_format_bytes)
  pub lasts : LeavesOnly (IsAdopted bytes s.disk.published) t.disk

-- reads give the files as they were, or with the base beside them
abbrev pub HasBaseOrNot : List ℕ → Folder → Folder → Type 0
HasBaseOrNot bytes s t = (t.disk.published ≡ s.disk.published) ⊎ (t.disk.published ≡ put s.disk.published base_name bytes)

-- This call failed, as the base was kept or the format behind it. Reads give the files as they were or with the base, and only
-- where a publish failed or the barrier behind it may they give the folder taken over.
abbrev pub AdoptFails : List ℕ → ShelfCall → Folder → Folder → Type 0
AdoptFails bytes Names s t = ⊥
AdoptFails bytes Length s t = ⊥
AdoptFails bytes ReadAt s t = ⊥
AdoptFails bytes StartDraft s t = HasBaseOrNot bytes s t
AdoptFails bytes Append s t = HasBaseOrNot bytes s t
AdoptFails bytes SyncDraft s t = HasBaseOrNot bytes s t
AdoptFails bytes Publish s t = (t.disk.published ≡ s.disk.published) ⊎ IsBeingAdopted bytes s.disk.published t.disk.published
AdoptFails bytes SyncFolder s t = IsBeingAdopted bytes s.disk.published t.disk.published

-- ---- before that

-- Equal but for what an upgrade makes in a folder that is not yet taken over: the converted runs below this number, and the
-- base. So a folder of the original tool is still one, with the runs that it had.
pub record SameButNew (count : ℕ) (files image : Files) : Type 0 where
  pub each : (name : List ℕ) → name ≢ base_name → ((number : ℕ) → number < count → name ≢ partial_name number) → image name ≡ files name

-- a stop at each moment leaves what one at the first might have left, or files that differ from those read then in what an
-- upgrade makes alone
abbrev pub PassesNew : ℕ → Folder → Folder → Type 0
PassesNew count s t = Passes (λ image. IsImage s.disk image ⊎ SameButNew count s.disk.published image) s t
