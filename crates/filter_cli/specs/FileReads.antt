-- A file that a filter reads by its name (docs/COMMANDS.md, "Filters", and the refusals of filters).
use Rattle.std.specs.Prelude.{◌≡◌, ◌⊎◌, ℕ, ◌+◌, ◌<◌, ⊤, Bool, Option, None, IfSome, List, length, take, drop, Result, Ok, Err}
use Rattle.std.specs.Option.{option_map, option_and_then}
use Rattle.std.specs.Io.KnownBytes.{Consumes, IsAtEnd}
use Rattle.edge_io.specs.Causes.{Rose}
use Rattle.edge_io.specs.Disk.{Files}
use Rattle.edge_io.specs.Seen.{Seen}
use Rattle.filter_cli.specs.Outside.{Reach}
use Rattle.filter_cli.specs.Pipe.{Pipe, pipe}
use Rattle.filter_cli.specs.Pumping.{PumpsToEnd, ReadFails, WriteFails, PassesLimit, StopsBefore}
use Rattle.filter_cli.specs.declared.file_loop.FileFault.{FileFault}
use Rattle.filter_cli.specs.declared.filter.StreamEnd.{StreamEnd}
use Rattle.filter_cli.specs.declared.file_loop.FileFault.TheVariants.{Read, NoFile, TooLong, Output, NoMemory}

-- ---- a file as an input

-- what is left of the file of this name from a place on, where the files are told and it is there
abbrev pub left_of_file : (name : List ℕ) (place : ℕ) → Option Files → Option (List ℕ)
left_of_file name place told = option_and_then (λ files. option_map (drop place) (files name)) told

-- the file as an input that was read up to a place; its faults are those of all reads of files
abbrev pub file_input : (name : List ℕ) (place : ℕ) → Seen Files → Seen (List ℕ)
file_input name place site = record { told = left_of_file name place site.told; faults = site.faults }

-- the file as that input, and the output
abbrev pub file_pipe : (name : List ℕ) (place : ℕ) → Reach → Pipe
file_pipe name place r = pipe (file_input name place r.site) r.pipe.out

-- ---- whether it is there

-- there is no file of this name, where the files are told
abbrev pub IsAbsent : List ℕ → Option Files → Type 0
IsAbsent name told = IfSome told (λ files. files name ≡ None)

-- there is a file of this name, where the files are told
abbrev pub IsThere : List ℕ → Option Files → Type 0
IsThere name told = IfSome told (λ files. files name ≡ None → ⊥)

-- The outcome says whether the file is there. Only where a read failed it leaves that open.
abbrev pub SaysWhether : (name : List ℕ) → Option Files → Result StreamEnd FileFault → Type 0
SaysWhether name told (Ok end) = IsThere name told
SaysWhether name told (Err Read) = ⊤
SaysWhether name told (Err NoFile) = IsAbsent name told
SaysWhether name told (Err TooLong) = IsThere name told
SaysWhether name told (Err Output) = IsThere name told
SaysWhether name told (Err NoMemory) = IsThere name told

-- ---- one read

-- the next bytes of the file were read; none come only at its end, or where there is no room for them
pub record ReadsFileOn (name : List ℕ) (place : ℕ) (before after : Option Files) (buf : List ℕ) (count : ℕ) : Type 0 where
  pub took : Consumes (left_of_file name place before) (left_of_file name (place + count) after) (take count buf)
  pub ends : count ≡ 0 → 0 < length buf → IsAtEnd (left_of_file name (place + count) after)
  pub there : IsThere name before

-- why no bytes of the file were given: a read failed, or it is not there
abbrev pub HasReadCause : List ℕ → Seen Files → Seen Files → FileFault → Type 0
HasReadCause name before after Read = Rose before.faults after.faults
HasReadCause name before after NoFile = IsAbsent name before.told × (after.faults ≡ before.faults)
HasReadCause name before after TooLong = ⊥
HasReadCause name before after Output = ⊥
HasReadCause name before after NoMemory = ⊥

-- ---- all of it

-- what is filtered of the file, whatever the filter: as of an input (`Pumps`), and where it is not there it stops
abbrev pub FiltersFile : (inside : List ℕ → Bool) (sees : List ℕ → List ℕ → Type 0) (ends : List ℕ → List ℕ → ℕ → Type 0) → Pipe → Pipe → Result StreamEnd FileFault → Type 0
FiltersFile inside sees ends before after (Ok end) = PumpsToEnd inside ends before after end
FiltersFile inside sees ends before after (Err Read) = ReadFails sees before after
FiltersFile inside sees ends before after (Err NoFile) = StopsBefore sees before after
FiltersFile inside sees ends before after (Err TooLong) = PassesLimit sees before after
FiltersFile inside sees ends before after (Err Output) = WriteFails sees ends before after
FiltersFile inside sees ends before after (Err NoMemory) = StopsBefore sees before after

-- Input and files stay as they were. Where there is no file of this name, nothing is written.
pub record LeavesRest (name : List ℕ) (before after : Reach) : Type 0 where
  pub input : after.pipe.input ≡ before.pipe.input
  pub files : after.site.told ≡ before.site.told
  pub nothing : IfSome before.site.told (λ files. files name ≡ None → after.pipe.out ≡ before.pipe.out)

-- A status that says of a file that it is not there: 3, or 4 where a read failed, or 5 where memory was wanting before it was
-- read.
abbrev pub SaysMissing : (before after : Seen Files) → ℕ → Type 0
SaysMissing before after answer = (answer ≡ 3) ⊎ (((answer ≡ 4) × Rose before.faults after.faults) ⊎ (answer ≡ 5))

-- The file was read up to some place, and filtered: a site does not tell how far it was read.
pub record FeedsFile (name : List ℕ) (inside : List ℕ → Bool) (sees : List ℕ → List ℕ → Type 0) (ends : List ℕ → List ℕ → ℕ → Type 0) (before after : Reach) (result : Result StreamEnd FileFault) : Type 0 where
  pub rest : LeavesRest name before after
  pub found : SaysWhether name before.site.told result
  pub place : ℕ
  pub fed : FiltersFile inside sees ends (file_pipe name 0 before) (file_pipe name place after) result
