use Rattle.std.proofs.Common.{◌≡◌}
use Rattle.edge_io.specs.Steps.{Goes}
use Rattle.old_upgrade.specs.Recording.{HasConvertedTo}
use Rattle.old_upgrade.proofs.conversion.convert_runs.Given as goal

-- the runs so far stand converted
abbrev pub invariant-loop-number : goal.invariant-loop-number
invariant-loop-number g l = record {
  converted : Goes (g.H.Shelf.seen l.initial.shelf).told (g.H.Shelf.seen l.shelf).told (HasConvertedTo l.number);
  count : (g.H.Shelf.seen l.shelf).faults ≡ (g.H.Shelf.seen l.initial.shelf).faults;
}
