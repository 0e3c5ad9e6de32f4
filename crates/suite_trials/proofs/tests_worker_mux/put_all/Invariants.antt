use Rattle.worker_mux.specs.Passes.{IsPassFor}
use Rattle.suite_trials.proofs.tests_worker_mux.put_all.Given as goal

abbrev pub invariant-loop-number : goal.invariant-loop-number
invariant-loop-number g l = IsPassFor l.belt l.pass
