-- What a whole file is (docs/DISK.md, sites).
use Rattle.std.specs.Prelude.{◌≡◌, ℕ, ⊤, ◌<◌, ◌≤◌, Option, Some, IfSome, IsSomeAnd, List, ◌++◌, length, Result, Ok, Err}
use Rattle.edge_io.specs.Causes.{Rose}
use Rattle.edge_io.specs.Disk.{Files}
use Rattle.edge_io.specs.declared.whole_file.ReadFault.{ReadFault}
use Rattle.edge_io.specs.declared.whole_file.ReadFault.TheVariants.{Failed, TooLong, NoMemory}

-- this is the file of that name, or there is none, where the files are told
abbrev pub IsFileOf : Option Files → List ℕ → Option (List ℕ) → Type 0
IsFileOf told name file = IfSome told (λ files. files name ≡ file)

-- the file of this name begins with these bytes, where it is there and told
abbrev pub BeginsFile : Option Files → List ℕ → List ℕ → Type 0
BeginsFile told name front = IfSome told (λ files. (bytes : List ℕ) → files name ≡ Some bytes → (rest : List ℕ) × (bytes ≡ front ++ rest))

-- too long is what is told to have more than so many bytes
abbrev pub IsTooLong : {T : Type 0} → Option Files → List ℕ → ℕ → Result T ReadFault → Type 0
IsTooLong told name most (Ok value) = ⊤
IsTooLong told name most (Err Failed) = ⊤
IsTooLong told name most (Err TooLong) = IfSome told (λ files. IsSomeAnd (files name) (λ bytes. most < length bytes))
IsTooLong told name most (Err NoMemory) = ⊤

-- The count rises where a read failed, and stands else.
abbrev pub CountsFailed : {T : Type 0} → ℕ → ℕ → Result T ReadFault → Type 0
CountsFailed before now (Ok value) = now ≡ before
CountsFailed before now (Err Failed) = (before ≤ now) × Rose before now
CountsFailed before now (Err TooLong) = now ≡ before
CountsFailed before now (Err NoMemory) = now ≡ before
