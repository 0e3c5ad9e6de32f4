use Rattle.std.proofs.Common.{◌≡◌}
use Rattle.worker_mux.specs.Callers.{IsCaller, GoesOn, tape}
use Rattle.worker_mux.specs.Passes.{settled_lanes}
use Rattle.worker_mux.specs.Works.{IsReadyOutcome, Drives}
use Rattle.worker_mux.specs.declared.work.Work.{Work}
use Rattle.worker_mux.proofs.caller.Caller.drive_out.Given as goal

abbrev pub invariant-loop : goal.invariant-loop
invariant-loop g l = record {
  ready : IsCaller g.L.Listener.heard l.shared.belt l.self;
  loan : l.pen.shelf.ghost_name ≡ l.initial.pen.shelf.ghost_name;
  goes : GoesOn g.L.Listener.heard g.L.Listener.keeps l.initial.self l.self (tape l.initial.pen.fault (g.H.Shelf.seen l.initial.pen.shelf.now) (g.H.Shelf.clock l.initial.pen.shelf.now)) (tape l.pen.fault (g.H.Shelf.seen l.pen.shelf.now) (g.H.Shelf.clock l.pen.shelf.now));
  settled : settled_lanes l.self.taker ≡ settled_lanes l.initial.self.taker;
  pass : IsReadyOutcome l.shared.belt l.outcome;
  drives : (before : Work g.row.C.Denot) → Drives g.C.Child.seen before l.fn.outcome → Drives g.C.Child.seen before l.outcome;
}
