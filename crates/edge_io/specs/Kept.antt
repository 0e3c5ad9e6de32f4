-- What files in order, of which the first are on the disk for good, stand for (docs/DISK.md, the shelf).
use Rattle.std.specs.Prelude.{ℕ, zero, suc, ◌+◌, ◌≤◌, Bool, true, Option, Some, None, List, [], ◌∷◌, take, string_bytes, nat_lt, nat_le, if◌then◌else◌}
use Rattle.std.specs.Str.{bytes_eq}
use Rattle.std.proofs.Common.{inl, inr}
use Rattle.edge_io.specs.declared.published_files.File.{File}
use Rattle.edge_io.specs.declared.published_files.Mark.{Mark}
use Rattle.edge_io.specs.Disk.{Files, put, put_same, Disk, IsImage, at_rest}

-- the first bytes, and the others where there are none
abbrev pub bytes_or_else : Option (List ℕ) → Option (List ℕ) → Option (List ℕ)
bytes_or_else None other = other
bytes_or_else (Some bytes) other = Some bytes

-- the last file of a name counts
abbrev pub lookup : List File → Files
lookup [] q = None
lookup (file ∷ files) q = bytes_or_else (lookup files q) (if bytes_eq q (string_bytes file.name) then Some file.bytes.items else None)

-- the file in this place of the list, counted from 0
abbrev pub nth : List File → ℕ → Option File
nth [] k = None
nth (file ∷ files) zero = Some file
nth (file ∷ files) (suc k) = nth files k

-- these files for good, and one that is pending
abbrev pub disk_with : Files → Option File → Bool → Disk
disk_with stable None whole = at_rest stable
disk_with stable (Some file) whole = record {
  published = put stable (string_bytes file.name) file.bytes.items;
  stable = stable;
  pending = Some (record { name = string_bytes file.name; whole = whole });
}

-- the file that is published at this mark and not settled yet
abbrev pub pending_file : List File → Mark → Option File
pending_file files mark = if nat_lt mark.settled mark.published then nth files mark.settled else None

-- the disk at this mark, where the files were published in this order
abbrev pub disk_at : List File → Mark → Disk
disk_at files mark = disk_with (lookup (take mark.settled files)) (pending_file files mark) mark.whole

-- the moment knows only the first n files, of which at most one is pending
pub record KnowsFirst (n : ℕ) (mark : Mark) : Type 0 where
  pub first : mark.settled ≤ mark.published
  pub one : mark.published ≤ mark.settled + 1
  pub published : mark.published ≤ n

-- an empty folder
abbrev pub first_mark : Mark
first_mark = record { settled = 0; published = 0; whole = true; since = 0 }

-- the last of these marks that had come by then
abbrev pub latest : Mark → List Mark → ℕ → Mark
latest found [] moment = found
latest found (mark ∷ marks) moment = latest (if nat_le mark.since moment then mark else found) marks moment

-- the mark that stands at this moment: the latest one up to it
abbrev pub mark_in_force : List Mark → ℕ → Mark
mark_in_force marks moment = latest first_mark marks moment

-- what reads give of such a disk is among what a stop may leave of it
pub disk_counts : (stable : Files) (pending : Option File) (whole : Bool) → IsImage (disk_with stable pending whole) (disk_with stable pending whole).published
disk_counts stable None whole = inl (λ i. stable)
disk_counts stable (Some file) whole = inr (file.bytes.items, λ i. put stable (string_bytes file.name) file.bytes.items, λ t. put_same stable (string_bytes file.name) file.bytes.items)
