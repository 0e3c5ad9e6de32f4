use Rattle.std.proofs.Common.{◌≡◌, ◌*◌, IfSome, length}
use Rattle.edge_io.specs.Steps.{Goes, Stays}
use Rattle.old_runs.specs.Fed.{HasHeardSome}
use Rattle.old_upgrade.specs.Recording.{HasHeardTo}
use Rattle.old_upgrade.proofs.failing_set.hear_pieces.Given as goal

-- the pieces so far were heard
abbrev pub invariant-loop-piece : goal.invariant-loop-piece
invariant-loop-piece g l = record {
  room : length l.buf ≡ 65536;
  heard : IfSome (g.H.Shelf.seen l.initial.shelf).told (HasHeardTo (l.piece * 65536) l.failing);
  some : HasHeardSome l.failing;
  same : Goes (g.H.Shelf.seen l.initial.shelf).told (g.H.Shelf.seen l.shelf).told Stays;
  count : (g.H.Shelf.seen l.shelf).faults ≡ (g.H.Shelf.seen l.initial.shelf).faults;
}
