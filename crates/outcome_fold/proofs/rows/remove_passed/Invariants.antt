use Rattle.std.proofs.Common.{◌≡◌, take, ◌&&◌, not}
use Rattle.std.specs.List.{filter}
use Rattle.outcome_fold.specs.Order.{among, without}
use Rattle.outcome_fold.specs.Answers.{ids_of, is_run}
use Rattle.outcome_fold.proofs.rows.remove_passed.Given as goal

abbrev pub invariant-loop-row : goal.invariant-loop-row
invariant-loop-row l = l.ids ≡ without l.fn.ids (ids_of (filter (λ row. is_run row && not (among l.failing row.id)) (take l.row-index l.rows)))
