-- A line in parts.
use Rattle.std.specs.Prelude.{ℕ, List, ◌++◌}
use Rattle.filter_cli.specs.declared.refusal_line.Line.{Line}

-- the bytes of a line: its four parts, one after another, with nothing between them
abbrev pub filter_line_text : Line → List ℕ
filter_line_text line = line.name.now ++ (line.front.now ++ (line.pattern.now ++ line.end.now))
