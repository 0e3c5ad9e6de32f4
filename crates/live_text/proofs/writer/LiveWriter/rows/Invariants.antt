use Rattle.std.proofs.Common.{◌≡◌, ◌++◌, List, take, length}
use Rattle.std.specs.List.{filter}
use Rattle.outcome_fold.specs.Answers.{is_run}
use Rattle.outcome_fold.specs.declared.row.Row.{Row}
use Rattle.live_text.specs.Live.{live_rows}
use Rattle.live_text.specs.Written.{HasWritten}
use Rattle.live_text.specs.declared.live.Live.{Live}
use Rattle.live_text.proofs.writer.LiveWriter.rows.Given as goal

abbrev pub invariant-loop-row : goal.invariant-loop-row
invariant-loop-row l = record {
  text : (kind : Live) (before : List Row) → HasWritten kind l.fn.self before → l.text.items ≡ l.fn.text.items ++ live_rows kind (length (filter is_run before)) (take l.row-index l.rows);
  written : (kind : Live) (before : List Row) → HasWritten kind l.fn.self before → HasWritten kind l.self (before ++ take l.row-index l.rows);
}
