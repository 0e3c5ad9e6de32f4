-- The folder that a shelf in memory stands for, and what a stop leaves of it (docs/DISK.md, the shelf).
use Rattle.std.specs.Prelude.{◌≡◌, ℕ, ◌<◌, ◌≤◌, Bool, List, [], ◌∷◌, ◌++◌, map, Some, None, if◌then◌else◌}
use Rattle.edge_io.specs.Disk.{Files, put, Disk, Folder, IsImage, at_rest}
use Rattle.edge_io.specs.Steps.{moved}
use Rattle.edge_io.specs.Kept.{mark_in_force, disk_at, disk_counts}
use Rattle.edge_io.specs.Plans.{Course, course_of}
use Rattle.edge_io.specs.declared.mem_shelf.MemShelf.{MemShelf}

-- what the shelf holds and has held
abbrev pub folder_of : MemShelf → Folder
folder_of shelf = record {
  disk = disk_at shelf.files.items shelf.current;
  draft = if shelf.drafting then Some (record { bytes = shelf.draft.items; synced = shelf.synced }) else None;
  past = map (disk_at shelf.files.items) shelf.past.items;
}

-- what reads give of a shelf in memory is among what a stop may leave of its disk
pub folder_counts : (shelf : MemShelf) → IsImage (folder_of shelf).disk (folder_of shelf).disk.published
folder_counts shelf = disk_counts _ _ _

-- which calls of the shelf are to fail, and how many there were
abbrev pub shelf_course : MemShelf → Course
shelf_course shelf = course_of shelf.plan

-- how often the shelf was called
abbrev pub shelf_calls : MemShelf → ℕ
shelf_calls shelf = shelf.plan.calls

-- how many of its calls failed
abbrev pub shelf_faults : MemShelf → ℕ
shelf_faults shelf = shelf.plan.faults

-- the disk at a moment: after so many calls
abbrev pub disk_then : MemShelf → ℕ → Disk
disk_then shelf moment = disk_at shelf.files.items (mark_in_force (shelf.past.items ++ shelf.current ∷ []) moment)

-- a call changes no moment before its end
abbrev pub Remembers : MemShelf → MemShelf → Type 0
Remembers old new = (moment : ℕ) → moment < shelf_calls new → disk_then new moment ≡ disk_then old moment

-- a folder that begins with these files, all on the disk for good
abbrev pub begins_with : Files → Folder
begins_with files = record { disk = at_rest files; draft = None; past = [] }

-- what a stop leaves of a disk: without the name that is pending, or with it
abbrev pub image_of : Disk → Bool → Files
image_of disk choice = if choice then disk.published else disk.stable

-- the shelf after a stop at that moment; a moment past the last call is now
pub record IsRestOf (shelf : MemShelf) (moment : ℕ) (choice : Bool) (image : MemShelf) : Type 0 where
  pub folder : folder_of image ≡ begins_with (image_of (disk_then shelf moment) choice)
  pub counts : IsImage (disk_then shelf moment) (image_of (disk_then shelf moment) choice)
  pub now : shelf_calls shelf ≤ moment → disk_then shelf moment ≡ (folder_of shelf).disk

-- a shelf whose calls are yet to come
pub record IsNew (shelf : MemShelf) (listed : List ℕ) : Type 0 where
  pub fails : (shelf_course shelf).fails ≡ listed
  pub calls : shelf_calls shelf ≡ 0
  pub short : (shelf_course shelf).short ≡ 0
  pub faults : shelf_faults shelf ≡ 0

-- one file more, on the disk for good, where nothing was pending
abbrev pub KeptForGood : List ℕ → List ℕ → Folder → Folder → Type 0
KeptForGood name bytes s t = t ≡ moved s (at_rest (put s.disk.published name bytes)) s.draft
