use Rattle.worker_mux.specs.Packets.{IsWhole}
use Rattle.worker_mux.specs.Passes.{IsPassFor}
use Rattle.suite_trials.proofs.tests_worker_mux.put_at_last.Given as goal

abbrev pub invariant-loop : goal.invariant-loop
invariant-loop g l = record {
  pass : IsPassFor l.belt l.pass;
  packets : IsWhole l.lot;
}
