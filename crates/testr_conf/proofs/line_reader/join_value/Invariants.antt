use Rattle.std.proofs.Common.{◌≡◌, ◌≤◌, ◌+◌, ◌++◌, length, map}
use Rattle.std.specs.List.{flat_map, take_while, concat}
use Rattle.sub_number.specs.Texts.{IsText}
use Rattle.testr_conf.specs.Lines.{lines_below, placed_lines, ended_line_of}
use Rattle.testr_conf.specs.Settings.{continued_text, is_inner, value_above}
use Rattle.testr_conf.proofs.line_reader.join_value.Given as goal

abbrev pub invariant-loop-line : goal.invariant-loop-line
invariant-loop-line l = record {
  value : value_above l.fn.own (lines_below l.fn.depth l.fn.below) ≡ l.value.items ++ flat_map continued_text (take_while is_inner (placed_lines l.fn.depth (map ended_line_of l.lines)));
  text : IsText l.value.items;
  room : length l.value.items + length (concat l.lines) + length l.lines ≤ length l.fn.own + (length l.fn.below + length l.fn.below);
}
