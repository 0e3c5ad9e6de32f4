use Rattle.std.proofs.Common.{◌≡◌, ◌++◌, List, take}
use Rattle.outcome_fold.specs.declared.row.Row.{Row}
use Rattle.tap_bridge.specs.Texts.{HasWrittenRows, tap_text_behind}
use Rattle.filter_cli.proofs.subunit_to_tap.put_rows.Given as goal

abbrev pub invariant-loop-row : goal.invariant-loop-row
invariant-loop-row l = record {
  text : (before : List Row) → HasWrittenRows l.fn.writer before → l.text.items ≡ l.fn.text.items ++ tap_text_behind before (take l.row-index l.rows);
  written : (before : List Row) → HasWrittenRows l.fn.writer before → HasWrittenRows l.writer (before ++ take l.row-index l.rows);
}
