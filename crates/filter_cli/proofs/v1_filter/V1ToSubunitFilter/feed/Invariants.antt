use Rattle.std.proofs.Common.{ℕ, ◌-◌, ◌≤◌, List, ◌++◌, take, length}
use Rattle.v1_bridge.specs.Kept.{HoldsLittle}
use Rattle.filter_cli.specs.Pipe.{Adds}
use Rattle.filter_cli.specs.Tapped.{most_open}
use Rattle.filter_cli.specs.V1Fed.{HasFedV1}
use Rattle.filter_cli.proofs.v1_filter.V1ToSubunitFilter.feed.Given as goal

-- the bytes so far were fed
abbrev pub invariant-loop-count : goal.invariant-loop-count
invariant-loop-count l = record {
  within : l.from ≤ length l.piece;
  held : length l.self.held.items ≤ most_open l.self.long;
  little : HoldsLittle l.self.reader;
  fed : (fed shown : List ℕ) → HasFedV1 l.fn.self.reader l.fn.self.held.items l.fn.self.long fed shown
      → Adds l.fn.text.items l.text.items (λ more. HasFedV1 l.self.reader l.self.held.items l.self.long (fed ++ take l.from l.piece) (shown ++ more));
}

abbrev pub decreases-loop-count : goal.decreases-loop-count
decreases-loop-count l = length l.piece - l.from
