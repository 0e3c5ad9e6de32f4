use Rattle.std.proofs.Common.{◌≤◌, length, map}
use Rattle.std.specs.List.{concat}
use Rattle.testr_conf.specs.Lines.{conf_lines, ended_line_of, placed_lines}
use Rattle.testr_conf.proofs.StandLemmas.{StandsBetween}
use Rattle.testr_conf.proofs.line_reader.read_lines.Given as goal

abbrev pub invariant-loop-line : goal.invariant-loop-line
invariant-loop-line l = record {
  stands : StandsBetween l.fn.dialect (conf_lines l.fn.text) (placed_lines l.above (map ended_line_of l.lines)) l.number l.reading;
  room : length (concat l.lines) ≤ length l.fn.text;
}
