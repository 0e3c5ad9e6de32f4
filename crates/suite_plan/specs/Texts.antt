-- Files that are read whole, and must not be too long.
use Rattle.std.specs.Prelude.{◌≡◌, ℕ, ◌≤◌, ◌<◌, Some, IsSomeAnd, List, length}
use Rattle.edge_io.specs.Disk.{Files}

-- the most bytes of a configuration, a list of ids and the processor table
abbrev pub most_text : ℕ
most_text = 16777216

-- the file of this name is there with these bytes, which are no more than it may have
pub record HasText (files : Files) (name text : List ℕ) : Type 0 where
  pub there : files name ≡ Some text
  pub short : length text ≤ most_text

-- it is there, and has more
abbrev pub HasTooMuch : Files → List ℕ → Type 0
HasTooMuch files name = IsSomeAnd (files name) (λ text. most_text < length text)
