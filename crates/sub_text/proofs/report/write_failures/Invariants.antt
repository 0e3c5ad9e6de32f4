use Rattle.std.proofs.Common.{◌≡◌, ◌++◌, take}
use Rattle.std.specs.List.{filter, flat_map}
use Rattle.outcome_fold.specs.Answers.{row_fails}
use Rattle.sub_text.specs.Texts.{failure_of}
use Rattle.sub_text.proofs.report.write_failures.Given as goal

abbrev pub invariant-loop-row : goal.invariant-loop-row
invariant-loop-row l = l.text.items ≡ l.fn.text.items ++ flat_map failure_of (filter row_fails (take l.row-index l.rows))
