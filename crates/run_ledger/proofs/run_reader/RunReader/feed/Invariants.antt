use Rattle.std.proofs.Common.{◌≤◌, length}
use Rattle.stream_reader.specs.Room.{most_held}
use Rattle.run_ledger.proofs.FoldLemmas.{IsReadTo}
use Rattle.run_ledger.proofs.run_reader.RunReader.feed.Given as goal

-- the parts so far were read
abbrev pub invariant-loop-left : goal.invariant-loop-left
invariant-loop-left l = record {
  held : length l.self.reader.bytes ≤ most_held;
  read : IsReadTo l.fn.self l.self l.piece l.left;
}

abbrev pub decreases-loop-left : goal.decreases-loop-left
decreases-loop-left l = length l.left
