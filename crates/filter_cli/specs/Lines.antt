-- A stream cut into lines.
use Rattle.std.specs.Prelude.{◌≡◌, ℕ, ⊤, List, [], ◌∷◌, ◌++◌}
use Rattle.std.specs.List.{flat_map}
use Rattle.v1_bridge.specs.Lines.{HasNoNewline}
use Rattle.sub_number.specs.Lines.{with_newline}

-- no newline is in any of the lines
abbrev pub HaveNoNewline : List (List ℕ) → Type 0
HaveNoNewline [] = ⊤
HaveNoNewline (line ∷ lines) = HasNoNewline line × HaveNoNewline lines

-- the lines whose newline is among the bytes, and what follows the last one
pub record IsSplit (bytes : List ℕ) (lines : List (List ℕ)) (rest : List ℕ) : Type 0 where
  pub joined : bytes ≡ flat_map with_newline lines ++ rest
  pub plain : HaveNoNewline lines
  pub open_line : HasNoNewline rest

-- what follows the last newline is a line where it is not empty
abbrev pub last_line : List ℕ → List (List ℕ)
last_line [] = []
last_line (byte ∷ bytes) = (byte ∷ bytes) ∷ []
