-- What an upgrade makes of a folder of the original tool: converted runs, one after another, and then a repository of them.
use Rattle.std.specs.Prelude.{◌≡◌, ◌≢◌, ◌⊎◌, ℕ, ◌<◌, ◌≤◌, true, List, length, map, slice_get}
use Rattle.edge_io.specs.Disk.{Files, Folder, IsImage}
use Rattle.edge_io.specs.Moments.{Passes}
use Rattle.run_shelf.specs.Adoption.{SameButNew}
use Rattle.run_shelf.specs.Bases.{base_name}
use Rattle.run_shelf.specs.Images.{AtRest}
use Rattle.run_shelf.specs.Repository.{run_of, partial_name, format_name, Shows, IsRepository, HasBasedFormat, base_of}
use Rattle.old_folder.specs.Olds.{IsOldWith}

-- The first runs, of these bytes, stand converted beside the files. Nothing else differs but a file of a base.
pub record HasConverted (runs : List (List ℕ)) (files now : Files) : Type 0 where
  pub but : SameButNew (length runs) files now
  pub each : (number : ℕ) → number < length runs → now (partial_name number) ≡ slice_get runs number

-- They stand so for good, and a stop at each moment left what one at the first might have left, or files that differ from
-- those read then in what an upgrade makes alone.
pub record Converts (runs : List (List ℕ)) (s t : Folder) : Type 0 where
  pub rest : AtRest t
  pub has : HasConverted runs s.disk.published t.disk.published
  pub passed : Passes (λ image. IsImage s.disk image ⊎ SameButNew (length runs) s.disk.published image) s t

-- ---- the whole

-- Still a folder of the original tool, which both tools open, and an upgrade may begin again: only converted runs below the
-- number of its runs, and a file of a base, differ. It has no more runs than that; of those that had a converted one alone,
-- some may be missing.
pub record StaysOld (files image : Files) : Type 0 where
  pub count : ℕ
  pub was : IsOldWith count files
  pub left : ℕ
  pub is : IsOldWith left image
  pub few : left ≤ count
  pub but : SameButNew count files image

-- The folder of the original tool is the repository of its runs, which have these bytes: they all are partial, and the base
-- counts them and has these ids. All other files are as they were.
pub record IsUpgraded (runs ids : List (List ℕ)) (files image : Files) : Type 0 where
  pub was : IsOldWith (length runs) files
  pub format : HasBasedFormat image
  pub repository : IsRepository image
  pub base : base_of image ≡ record { count = length runs; ids = ids }
  pub shown : Shows image (map (run_of true) runs)
  pub others : (name : List ℕ) → name ≢ format_name → name ≢ base_name → ((number : ℕ) → number < length runs → name ≢ partial_name number) → image name ≡ files name
