use Rattle.worker_mux.specs.Passes.{IsTakerFor}
use Rattle.suite_trials.proofs.tests_worker_mux.take_at_last.Given as goal

abbrev pub invariant-loop : goal.invariant-loop
invariant-loop g l = IsTakerFor l.belt l.taker
