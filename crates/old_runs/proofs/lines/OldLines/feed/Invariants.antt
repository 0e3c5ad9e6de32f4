use Rattle.std.proofs.Common.{◌++◌, ◌≤◌, ℕ, List, length}
use Rattle.packet_codec.specs.declared.event.Event.{Event}
use Rattle.old_runs.specs.Giving.{AppendsEvents}
use Rattle.old_runs.specs.Lines.{HasCut, HasFedLines, AreReadyLines}
use Rattle.old_runs.proofs.lines.OldLines.feed.Given as goal

-- the lines so far were heard
abbrev pub invariant-loop-count : goal.invariant-loop-count
invariant-loop-count l = record {
  within : length l.left ≤ length l.piece;
  ready : AreReadyLines l.self;
  cut : (bytes : List ℕ) (given : List Event) → HasFedLines l.fn.self bytes given → AppendsEvents l.fn.packets.items l.packets.items (λ more. HasCut l.self (bytes ++ l.piece) l.left (given ++ more));
}

abbrev pub decreases-loop-count : goal.decreases-loop-count
decreases-loop-count l = length l.left
