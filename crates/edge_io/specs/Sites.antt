-- What a read of a file by its name gives (docs/DISK.md, sites).
use Rattle.std.specs.Prelude.{◌≡◌, ℕ, ◌<◌, ◌≤◌, ⊤, Option, None, IfSome, IsSomeAnd, List, length, take, drop, Result, IfOk}
use Rattle.edge_io.specs.Disk.{Files}
use Rattle.edge_io.specs.declared.site.Found.{Found}
use Rattle.edge_io.specs.declared.site.Found.TheVariants.{Absent, Read}

-- the first `count` bytes of the buffer are those that stand in the file from that place on
pub record GivesPart (bytes : List ℕ) (place : ℕ) (buf : List ℕ) (count : ℕ) : Type 0 where
  pub fits : count ≤ length buf
  pub there : count ≤ length (drop place bytes)
  pub same : take count buf ≡ take count (drop place bytes)
  -- none only at the end or past it, or where the buffer is empty
  pub some : count ≡ 0 → 0 < length buf → length bytes ≤ place

-- what is found of a file that is there or not
abbrev pub Finds : Option (List ℕ) → ℕ → List ℕ → Found → Type 0
Finds file place buf Absent = file ≡ None
Finds file place buf (Read count) = IsSomeAnd file (λ bytes. GivesPart bytes place buf count)

-- what is found under a name, where the files are told
abbrev pub FindsFile : {E : Type 0} → Option Files → List ℕ → ℕ → List ℕ → Result Found E → Type 0
FindsFile told name place buf result = IfOk result (λ found. IfSome told (λ files. Finds (files name) place buf found))

-- told or not, at most as many bytes as fit
abbrev pub FitsIn : List ℕ → Found → Type 0
FitsIn buf Absent = ⊤
FitsIn buf (Read count) = count ≤ length buf

-- of a file that is found no more is given than the buffer holds
abbrev pub FindsAtMost : {E : Type 0} → Result Found E → List ℕ → Type 0
FindsAtMost result buf = IfOk result (FitsIn buf)
