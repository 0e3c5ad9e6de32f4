use Rattle.std.proofs.Common.{◌++◌, ◌+◌, ℕ, List, length}
use Rattle.packet_codec.specs.declared.event.Event.{Event}
use Rattle.v1_bridge.specs.Lines.{HasNoNewline}
use Rattle.old_runs.specs.Giving.{AppendsEvents}
use Rattle.old_runs.specs.Lines.{HasCut, AreReadyLines}
use Rattle.old_runs.proofs.lines.OldLines.add.Given as goal

-- the bytes so far were taken in pieces
abbrev pub invariant-loop-rest : goal.invariant-loop-rest
invariant-loop-rest l = record {
  plain : HasNoNewline l.rest;
  ready : AreReadyLines l.self;
  cut : (all left : List ℕ) (given : List Event) → HasCut l.fn.self all (l.bytes ++ left) given → AppendsEvents l.fn.packets.items l.packets.items (λ more. HasCut l.self all (l.rest ++ left) (given ++ more));
}

abbrev pub decreases-loop-rest : goal.decreases-loop-rest
decreases-loop-rest l = length l.rest + length l.self.held.items
