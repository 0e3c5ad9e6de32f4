-- What a stop at each moment of a run of calls may leave (docs/DISK.md, the shelf).
use Rattle.std.specs.Prelude.{◌≡◌, List, [], ◌∷◌, ◌++◌, All}
use Rattle.edge_io.specs.Disk.{Files, Disk, Folder, IsImage}

-- each image that a stop may leave of this disk has P
abbrev pub LeavesOnly : (Files → Type 0) → Disk → Type 0
LeavesOnly P disk = (image : Files) → IsImage disk image → P image

-- From s to t, a stop at each moment leaves what has P. `later` are the disks of the moments after s.
pub record Passes (P : Files → Type 0) (s t : Folder) : Type 0 where
  pub later : List Disk
  pub grows : t.past ++ t.disk ∷ [] ≡ (s.past ++ s.disk ∷ []) ++ later
  pub each : All (LeavesOnly P) later
