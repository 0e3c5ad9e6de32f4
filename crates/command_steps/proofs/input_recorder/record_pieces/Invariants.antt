use Rattle.std.proofs.Common.{◌≡◌, ◌+◌, ◌-◌, ◌≤◌, List, [], ℕ, false, length}
use Rattle.std.specs.Io.KnownBytes.{Consumes}
use Rattle.edge_io.specs.Steps.{Goes, Grown, HasDraft}
use Rattle.edge_io.specs.Limits.{most_bytes}
use Rattle.packet_codec.specs.Grammar.{AreBytes}
use Rattle.run_shelf.specs.Drafts.{SameButDraft}
use Rattle.worker_lane.specs.Scribing.{Recording}
use Rattle.stream_reader.specs.Room.{most_held}
use Rattle.command_steps.specs.Hearing.{HearsMore}
use Rattle.command_steps.specs.Outside.{fed}
use Rattle.command_steps.specs.Recording.{NoneFailed}
use Rattle.command_steps.proofs.input_recorder.record_pieces.Given as goal

-- the packets of the bytes read so far were written
abbrev pub invariant-loop-count : goal.invariant-loop-count
invariant-loop-count g l = record {
  read : (bytes : List ℕ) × Consumes (g.I.Source.seen l.initial.input).told (g.I.Source.seen l.input).told bytes × (length bytes ≡ l.total) × (run : List ℕ) × Recording bytes l.scribe run × HearsMore g.L.Listener.heard l.fn.listener l.listener run × AreBytes run × Goes (g.H.Shelf.seen l.initial.shelf).told (g.H.Shelf.seen l.shelf).told (Grown run);
  few : l.total ≤ most_bytes;
  draft : HasDraft (g.H.Shelf.seen l.shelf).told;
  going_on : l.scribe.held.ended ≡ false;
  held : length l.scribe.held.bytes ≤ most_held;
  lane : l.scribe.lane ≡ l.fn.scribe.lane;
  empty : l.packets.items ≡ [];
  rests : Goes (g.H.Shelf.seen l.initial.shelf).told (g.H.Shelf.seen l.shelf).told SameButDraft;
  counts : NoneFailed (fed (g.H.Shelf.seen l.initial.shelf) (g.I.Source.seen l.initial.input)) (fed (g.H.Shelf.seen l.shelf) (g.I.Source.seen l.input));
}

abbrev pub decreases-loop-count : goal.decreases-loop-count
decreases-loop-count g l = most_bytes + 1 - l.total
