-- Files in memory that take their names at the end (docs/DISK.md, the forms in memory).
use Rattle.std.specs.Prelude.{ℕ, List}
use Rattle.edge_io.specs.Disk.{Files}
use Rattle.edge_io.specs.Planned.{site_files}
use Rattle.new_files.specs.declared.mem_new_files.MemNewFiles.{MemNewFiles}

-- what each name holds
abbrev pub held_files : MemNewFiles → Files
held_files files = site_files files.site

-- how many calls there were
abbrev pub made_calls : MemNewFiles → ℕ
made_calls files = files.calls

-- which calls are to fail, by their numbers from 0
abbrev pub failing_calls : MemNewFiles → List ℕ
failing_calls files = files.fails.items

-- how many calls failed
abbrev pub file_faults : MemNewFiles → ℕ
file_faults files = files.faults
