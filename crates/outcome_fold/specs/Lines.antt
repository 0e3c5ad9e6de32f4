-- Texts in whole lines (docs/FORMATS.md, "The text of a row").
use Rattle.std.specs.Prelude.{ℕ, Bool, ◌||◌, List, [], ◌∷◌, ◌++◌, length, nat_eq, ◌==◌, if◌then◌else◌}
use Rattle.std.specs.List.{ends_with}

-- the end of a line
abbrev pub newline : List ℕ
newline = 10 ∷ []

-- no line of the text is left without its end
abbrev pub ends_line : List ℕ → Bool
ends_line text = length text == 0 || ends_with nat_eq text newline

-- the end of the line that the text ends within, if it does
abbrev pub line_end : List ℕ → List ℕ
line_end text = if ends_line text then [] else newline

-- the text in whole lines
abbrev pub whole_lines : List ℕ → List ℕ
whole_lines text = text ++ line_end text
