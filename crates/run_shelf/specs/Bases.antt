-- The base of a folder that another program began: how many runs it had then, and which tests failed (docs/DISK.md,
-- "Files of a store").
use Rattle.std.specs.Prelude.{ℕ, ◌≤◌, List, [], ◌∷◌, ◌==◌, codes, if◌then◌else◌}
use Rattle.std.specs.Str.Parse.{digits_value}
use Rattle.run_shelf.specs.IdFiles.{IsIdFile}

-- the first `count` runs are those from before, after which these ids failed
pub record Base : Type 0 where
  pub count : ℕ
  pub ids : List (List ℕ)

-- the base of a folder that no other program began: no runs, and no ids
abbrev pub no_base : Base
no_base = record { count = 0; ids = [] }

-- the name of the file that holds a base
abbrev pub base_name : List ℕ
base_name = codes "base.set"

-- what the first line of that file says
abbrev pub base_title : List ℕ
base_title = codes "subunit-base 1"

-- the bytes hold this base
pub record IsBase (bytes : List ℕ) (base : Base) : Type 0 where
  pub file : IsIdFile base_title bytes base.count base.ids
  pub few : base.count ≤ 1000000

-- ---- the base, told by the bytes

-- what stands before the first newline, or all bytes where there is none
abbrev pub first_line : List ℕ → List ℕ
first_line [] = []
first_line (byte ∷ bytes) = if byte == 10 then [] else byte ∷ first_line bytes

-- what stands behind the first newline, or nothing where there is none
abbrev pub behind_line : List ℕ → List ℕ
behind_line [] = []
behind_line (byte ∷ bytes) = if byte == 10 then bytes else behind_line bytes

-- a byte more before the first piece, where there is one
abbrev pub onto_first : ℕ → List (List ℕ) → List (List ℕ)
onto_first byte [] = []
onto_first byte (piece ∷ pieces) = (byte ∷ piece) ∷ pieces

-- the pieces that a zero byte ends, each without it
abbrev pub zero_ended_pieces : List ℕ → List (List ℕ)
zero_ended_pieces [] = []
zero_ended_pieces (byte ∷ bytes) = if byte == 0 then [] ∷ zero_ended_pieces bytes else onto_first byte (zero_ended_pieces bytes)

-- what the bytes tell as a base: the number in their second line, and the ids behind that line; of bytes that hold a
-- base it is that one
unfoldable pub base_in : List ℕ → Base
base_in bytes = record { count = digits_value 10 (first_line (behind_line bytes)); ids = zero_ended_pieces (behind_line (behind_line bytes)) }

-- the bytes hold a base, which is the one that they tell
abbrev pub HoldsBase : List ℕ → Type 0
HoldsBase bytes = IsBase bytes (base_in bytes)
