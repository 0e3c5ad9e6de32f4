-- A line in parts.
use Rattle.std.specs.Prelude.{ℕ, List, [], ◌++◌, codes}
use Rattle.std.specs.Fmt.{decimal, signed_decimal}
use Rattle.command_steps.specs.declared.refusal_line.Part.{Part}
use Rattle.command_steps.specs.declared.refusal_line.Part.TheVariants.{Nothing, Number, Status, Name, Place, Pattern}
use Rattle.command_steps.specs.declared.refusal_line.Line.{Line}

-- a line of a file, by its number
abbrev pub place_text : (name : List ℕ) → (number : ℕ) → List ℕ
place_text name number = name ++ codes " line " ++ decimal number

-- a line of a file, and the pattern that it has
abbrev pub pattern_place_text : (name : List ℕ) → (number : ℕ) → (pattern : List ℕ) → List ℕ
pattern_place_text name number pattern = place_text name number ++ codes ": bad pattern: " ++ pattern

-- the bytes of a line's middle part
abbrev pub part_text : Part → List ℕ
part_text Nothing = []
part_text (Number number) = decimal number
part_text (Status status) = signed_decimal status
part_text (Name name) = name.now
part_text (Place name number) = place_text name.now number
part_text (Pattern name number pattern) = pattern_place_text name.now number pattern.now

-- the bytes of a line that is told
abbrev pub line_text : Line → List ℕ
line_text line = line.front.now ++ part_text line.part ++ line.rest.now
