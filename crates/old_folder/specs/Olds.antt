-- Folders that the original tool made: how many runs they have, and the files of these (docs/FORMATS.md, "Folders of another
-- program").
use Rattle.std.specs.Prelude.{◌≡◌, ◌⊎◌, ℕ, ◌+◌, ◌-◌, ◌<◌, ◌≤◌, nat_le, ◌==◌, Bool, ◌||◌, ◌&&◌, if◌then◌else◌, Option, Some, None, IsSome, List, length, take, drop, codes}
use Rattle.std.specs.Char.{is_ascii_digit}
use Rattle.std.specs.List.{list_all, prefix_len, suffix_len}
use Rattle.std.specs.Str.Parse.{digits_value}
use Rattle.edge_io.specs.Disk.{Files}
use Rattle.run_shelf.specs.Adoption.{IsOld}
use Rattle.run_shelf.specs.Repository.{full_name, run_name, most_runs}
use Rattle.old_folder.specs.declared.files.OldName.{OldName}
use Rattle.old_folder.specs.declared.files.OldName.TheVariants.{Run, Failing}

-- ---- its files

-- the name of the file that tells which number comes next
abbrev pub next_name : List ℕ
next_name = codes "next-stream"

-- the name of the file of the tests that failed last
abbrev pub failing_name : List ℕ
failing_name = codes "failing"

-- the name of a file that is read whole
abbrev pub old_name : OldName → List ℕ
old_name (Run number) = full_name number
old_name Failing = failing_name

-- its number is one that a run can have, where it is a run's
abbrev pub IsNumbered : OldName → Type 0
IsNumbered file = (number : ℕ) → file ≡ Run number → number < most_runs

-- ---- the number that comes next

-- a space, a tab, a newline, a vertical tab, a form feed or a carriage return
abbrev pub is_white_space : ℕ → Bool
is_white_space byte = byte == 32 || (nat_le 9 byte && nat_le byte 13)

-- without the blanks at the front
abbrev pub trim_white_space_start : List ℕ → List ℕ
trim_white_space_start bytes = drop (prefix_len is_white_space bytes) bytes

-- without the blanks at the end
abbrev pub trim_white_space_end : List ℕ → List ℕ
trim_white_space_end bytes = take (length bytes - suffix_len is_white_space bytes) bytes

-- the bytes without the blanks at both ends
abbrev pub trim_white_space : List ℕ → List ℕ
trim_white_space bytes = trim_white_space_end (trim_white_space_start bytes)

-- the bytes are digits
abbrev pub are_digits : List ℕ → Bool
are_digits bytes = list_all is_ascii_digit bytes

-- one to seven digits, of a number of runs that a repository has room for
abbrev pub is_run_count : List ℕ → Bool
is_run_count bytes = are_digits bytes && (nat_le 1 (length bytes) && (nat_le (length bytes) 7 && nat_le (digits_value 10 bytes) most_runs))

-- the number of these digits, where they are such a number
abbrev pub count_in : List ℕ → Option ℕ
count_in bytes = if is_run_count bytes then Some (digits_value 10 bytes) else None

-- how many bytes `next-stream` has at most
abbrev pub most_short : ℕ
most_short = 64

-- the number that `next-stream` tells, by what it holds; none where it is not there
abbrev pub next_in : Option (List ℕ) → Option ℕ
next_in None = None
next_in (Some bytes) = if nat_le (length bytes) most_short then count_in (trim_white_space bytes) else None

-- the same of files
abbrev pub next_of : Files → Option ℕ
next_of files = next_in (files next_name)

-- ---- how many runs there are

-- a file of a run of this number is there, as the original tool wrote it or converted
abbrev pub HasOldRun : Files → ℕ → Type 0
HasOldRun files number = (partial : Bool) × IsSome (files (run_name number partial))

-- So many runs the folder has: as many as the number that comes next, or one more than the greatest number that has a file
-- of a run, where this is more.
pub record IsOldCount (files : Files) (count : ℕ) : Type 0 where
  pub next : ℕ
  pub tells : next_of files ≡ Some next
  pub few : count ≤ most_runs
  pub most : next ≤ count
  pub within : (number : ℕ) → number < most_runs → HasOldRun files number → number < count
  pub least : (count ≡ next) ⊎ ((number : ℕ) × (number < most_runs) × HasOldRun files number × (count ≡ number + 1))

-- a folder of the original tool with so many runs
pub record IsOldWith (count : ℕ) (files : Files) : Type 0 where
  pub old : IsOld files
  pub counted : IsOldCount files count
