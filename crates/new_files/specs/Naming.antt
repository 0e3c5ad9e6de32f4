-- What becomes of a file that takes its name at the end (docs/DISK.md, "New files").
use Rattle.std.specs.Prelude.{◌≡◌, ℕ, Option, IfSome, List, []}
use Rattle.edge_io.specs.Disk.{Files, put}
use Rattle.edge_io.specs.Steps.{Goes}

-- no byte was written, where what was written is told
abbrev pub IsEmptyDraft : Option (List ℕ) → Type 0
IsEmptyDraft told = IfSome told (λ bytes. bytes ≡ [])

-- what was written stands under this name, whole, and every other file is as before
abbrev pub PutsWhole : (name : List ℕ) (written : Option (List ℕ)) → Files → Files → Type 0
PutsWhole name written before after = (bytes : List ℕ) × IfSome written (λ told. bytes ≡ told) × (after ≡ put before name bytes)

-- the same, where the files are told
abbrev pub TakesName : (name : List ℕ) (written : Option (List ℕ)) → Option Files → Option Files → Type 0
TakesName name written before after = Goes before after (PutsWhole name written)
