use Rattle.std.proofs.Common.{◌≡◌}
use Rattle.worker_mux.specs.Callers.{IsCaller, GoesOn, tape}
use Rattle.worker_mux.specs.Passes.{settled_lanes}
use Rattle.worker_mux.proofs.caller.Caller.take_all_ends.Given as goal

abbrev pub invariant-loop : goal.invariant-loop
invariant-loop g l = record {
  ready : IsCaller g.L.Listener.heard l.shared.belt l.self;
  loan : l.pen.shelf.ghost_name ≡ l.initial.pen.shelf.ghost_name;
  goes : GoesOn g.L.Listener.heard g.L.Listener.keeps l.initial.self l.self (tape l.initial.pen.fault (g.H.Shelf.seen l.initial.pen.shelf.now) (g.H.Shelf.clock l.initial.pen.shelf.now)) (tape l.pen.fault (g.H.Shelf.seen l.pen.shelf.now) (g.H.Shelf.clock l.pen.shelf.now));
  settled : settled_lanes l.self.taker ≡ settled_lanes l.initial.self.taker;
}
