use Rattle.outcome_fold.specs.Lines.{whole_lines}
use Rattle.suite_plan.proofs.tail.Tail.into_told.Goals as goal

pub returns : goal.returns
returns c = λ text has. c.into_last.ensures (whole_lines text) (c.in_ok-end_line.ensures text has)
