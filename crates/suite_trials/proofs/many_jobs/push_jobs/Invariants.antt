use Rattle.std.specs.Prelude.{◌≡◌, ◌+◌, length}
use Rattle.suite_trials.proofs.many_jobs.push_jobs.Given as goal

abbrev pub invariant-loop : goal.invariant-loop
invariant-loop l = length l.jobs.items ≡ length l.initial.jobs.items + l.counter
