-- Bytes cut into lines (docs/FORMATS.md, "Version 1").
use Rattle.std.specs.Prelude.{ℕ, suc, ◌==◌, List, [], ◌∷◌, ◌++◌, length, if◌then◌else◌}

-- how many bytes the first line has, with its newline, where it has one
abbrev pub line_size : List ℕ → ℕ
line_size [] = 0
line_size (byte ∷ bytes) = if byte == 10 then 1 else suc (line_size bytes)

-- the lines of bytes behind the front of a line, each with its newline, which the last one may lack
abbrev pub lines_behind : List ℕ → List ℕ → List (List ℕ)
lines_behind front [] = if length front == 0 then [] else front ∷ []
lines_behind front (byte ∷ bytes) =
    if byte == 10 then (front ++ byte ∷ []) ∷ lines_behind [] bytes else lines_behind (front ++ byte ∷ []) bytes

-- the lines of bytes
abbrev pub lines_of : List ℕ → List (List ℕ)
lines_of bytes = lines_behind [] bytes
