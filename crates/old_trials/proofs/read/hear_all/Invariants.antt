use Rattle.old_runs.specs.Fed.{HasHeardSome}
use Rattle.old_trials.proofs.read.hear_all.Given as goal

-- the file goes on
abbrev pub invariant-loop-piece : goal.invariant-loop-piece
invariant-loop-piece l = (goal.iterator-loop-piece).can_next l.piece-iterator × (goal.iterator-loop-piece).is_finite l.piece-iterator × HasHeardSome l.failing
