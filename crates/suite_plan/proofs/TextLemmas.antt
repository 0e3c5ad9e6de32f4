-- What the reading of a whole file tells of the file, and of the count of faults.
use Rattle.std.proofs.Common.{◌≡◌, ◌≤◌, ℕ, false, true≢false, arith, List, length, Option, Some, None, IfSome, sym}
use Rattle.edge_io.specs.Causes.{RisesExactlyIf}
use Rattle.edge_io.specs.Disk.{Files}
use Rattle.suite_plan.specs.Texts.{most_text, HasText}

-- a count that stands where no read failed
pub stands : (before after : ℕ) → after ≡ before → RisesExactlyIf before after false
stands before after same = record { later = omega (arith, same); rose = λ is. absurd (true≢false (sym is)); stands = λ is. same }

-- what is so of all files is so of those that are told
pub if_told : (told : Option Files) (P : Files → Type 0) → ((files : Files) → P files) → IfSome told P
if_told None P all = tt
if_told (Some files) P all = all files

-- what follows from a fact of files
pub where_told : (told : Option Files) (P Q : Files → Type 0) → ((files : Files) → P files → Q files) → IfSome told P → IfSome told Q
where_told None P Q follows given = tt
where_told (Some files) P Q follows given = follows files given

-- a file that was read whole is there, and not too long
pub has_text : (name text : List ℕ) → length text ≤ most_text → (files : Files) → files name ≡ Some text → HasText files name text
has_text name text short files is = record { there = is; short = short }
