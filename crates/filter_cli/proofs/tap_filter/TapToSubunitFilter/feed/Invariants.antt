use Rattle.std.proofs.Common.{ℕ, ◌-◌, ◌≤◌, List, ◌++◌, take, length}
use Rattle.filter_cli.specs.Pipe.{Adds}
use Rattle.filter_cli.specs.Tapped.{most_open, HasTapped}
use Rattle.filter_cli.proofs.tap_filter.TapToSubunitFilter.feed.Given as goal

-- the bytes so far were fed
abbrev pub invariant-loop-count : goal.invariant-loop-count
invariant-loop-count l = record {
  within : l.from ≤ length l.piece;
  ready : length l.self.line.held.items ≤ most_open l.self.line.long;
  fed : (fed shown : List ℕ) → HasTapped l.fn.self.reader l.fn.self.line.held.items l.fn.self.line.long fed shown
      → Adds l.fn.text.items l.text.items (λ more. HasTapped l.self.reader l.self.line.held.items l.self.line.long (fed ++ take l.from l.piece) (shown ++ more));
}

abbrev pub decreases-loop-count : goal.decreases-loop-count
decreases-loop-count l = length l.piece - l.from
