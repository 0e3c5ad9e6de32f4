use Rattle.std.proofs.Common.{◌*◌}
use Rattle.run_shelf.specs.Holds.{kinds_of, FitsWhereTold}
use Rattle.command_steps.specs.Outside.{shown}
use Rattle.command_steps.proofs.CopyLemmas.{CopiedTo}
use Rattle.command_steps.proofs.run_copy.copy_last.Given as goal

-- the pieces so far were copied
abbrev pub invariant-loop-piece : goal.invariant-loop-piece
invariant-loop-piece g l = record {
  copied : CopiedTo l.number (l.piece * 65536) (shown (g.H.Shelf.seen l.initial.shelf) (g.O.Sink.seen l.initial.out)) (shown (g.H.Shelf.seen l.shelf) (g.O.Sink.seen l.out));
  fits : FitsWhereTold (kinds_of l.found) (g.H.Shelf.seen l.shelf).told;
}
