use Rattle.worker_mux.specs.Works.{KeepsWork, IsReady}
use Rattle.worker_mux.proofs.work.drive_work.Given as goal

abbrev pub invariant-loop : goal.invariant-loop
invariant-loop g l = record {
  ready : IsReady l.shared.belt l.work;
  keeps : KeepsWork g.C.Child.seen l.fn.work l.work;
}
