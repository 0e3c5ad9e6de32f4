-- How many calls of the folder it takes to read runs in pieces of 65,536 bytes. A clock counts the calls, and stands still
-- at its last value.
use Rattle.std.specs.Prelude.{ℕ, ◌+◌, ◌-◌, ◌*◌, ◌≤◌, List, [], ◌∷◌, drop, length, IfSome}
use Rattle.edge_io.specs.Disk.{Folder}
use Rattle.run_shelf.specs.Repository.{Run, run_at, Shows}

-- how many bytes the reads of a run ask for at most, the last of which gives fewer than it asks for
abbrev pub bytes_asked : Run → ℕ
bytes_asked run = length run.bytes + 65536

-- the same of several runs, each read once
abbrev pub asked_for_each : List Run → ℕ
asked_for_each [] = 0
asked_for_each (run ∷ runs) = bytes_asked run + asked_for_each runs

-- the calls are at most the reads of the run of this number, once
abbrev pub ReadsOnce : ℕ → ℕ → ℕ → Folder → Type 0
ReadsOnce number before now s = IfSome (run_at s.disk.published number) (λ run. now * 65536 ≤ before * 65536 + bytes_asked run)

-- the calls are at most the reads of the runs from this number on, each once
abbrev pub ReadsFrom : ℕ → ℕ → ℕ → Folder → Type 0
ReadsFrom start before now s = (runs : List Run) → Shows s.disk.published runs → now * 65536 ≤ before * 65536 + asked_for_each (drop start runs)

-- The same so far: the runs from `start` on were read, but for those from `number` on.
abbrev pub ReadsTo : ℕ → ℕ → ℕ → ℕ → Folder → Type 0
ReadsTo start number before now s =
    (runs : List Run) → Shows s.disk.published runs → now * 65536 + asked_for_each (drop number runs) ≤ before * 65536 + asked_for_each (drop start runs)

-- at most two calls that read the file of a cache, and then the reads of the runs from this number on, each once
abbrev pub ReadsBehindCache : ℕ → ℕ → ℕ → Folder → Type 0
ReadsBehindCache start before now s = (runs : List Run) → Shows s.disk.published runs → now * 65536 ≤ before * 65536 + (131072 + asked_for_each (drop start runs))

-- the same, but for the runs from `number` on, which are not read
abbrev pub ReadsBehindCacheTo : ℕ → ℕ → ℕ → ℕ → Folder → Type 0
ReadsBehindCacheTo start number before now s =
    (runs : List Run) → Shows s.disk.published runs → now * 65536 ≤ before * 65536 + (131072 + (asked_for_each (drop start runs) - asked_for_each (drop number runs)))
