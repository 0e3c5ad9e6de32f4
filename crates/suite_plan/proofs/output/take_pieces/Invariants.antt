use Rattle.std.proofs.Common.{◌≡◌, length}
use Rattle.edge_io.specs.Steps.{Goes}
use Rattle.suite_plan.specs.Outputs.{HasTakenFront, GivesBytes}
use Rattle.suite_plan.proofs.output.take_pieces.Given as goal

-- the pieces so far were taken in turn
abbrev pub invariant-loop : goal.invariant-loop
invariant-loop g l = record {
  taken : HasTakenFront (g.T.Taker.has l.taker) (g.C.Child.seen l.fn.child).told (g.C.Child.seen l.child).told;
  many : Goes (g.C.Child.seen l.fn.child).told (g.C.Child.seen l.child).told (GivesBytes l.counter);
  ready : g.T.Taker.ready l.taker;
  room : length l.buffer ≡ 65536;
}
