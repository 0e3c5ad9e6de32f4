use Rattle.std.proofs.Common.{◌≡◌, ◌+◌, ◌-◌, ◌≤◌, List, [], ℕ, false, length}
use Rattle.edge_io.specs.Steps.{Goes, Grown, HasDraft}
use Rattle.edge_io.specs.Limits.{most_bytes}
use Rattle.packet_codec.specs.Grammar.{AreBytes}
use Rattle.run_shelf.specs.Drafts.{SameButDraft}
use Rattle.worker_lane.specs.Scribing.{Recording}
use Rattle.stream_reader.specs.Room.{most_held}
use Rattle.command_steps.specs.Files.{AreFrontOf, NoneFailedFiling}
use Rattle.command_steps.specs.Hearing.{HearsMore}
use Rattle.command_steps.specs.Outside.{filed}
use Rattle.command_steps.proofs.files.record_pieces.Given as goal

-- the packets of the bytes read so far were written
abbrev pub invariant-loop-found : goal.invariant-loop-found
invariant-loop-found g l = record {
  read : (bytes : List ℕ) × AreFrontOf l.name (g.F.Site.seen l.initial.site).told bytes × (length bytes ≡ l.total) × (run : List ℕ) × Recording bytes l.scribe run × HearsMore g.L.Listener.heard l.fn.listener l.listener run × AreBytes run × Goes (g.H.Shelf.seen l.initial.shelf).told (g.H.Shelf.seen l.shelf).told (Grown run);
  few : l.total ≤ most_bytes;
  draft : HasDraft (g.H.Shelf.seen l.shelf).told;
  going_on : l.scribe.held.ended ≡ false;
  held : length l.scribe.held.bytes ≤ most_held;
  lane : l.scribe.lane ≡ l.fn.scribe.lane;
  empty : l.packets.items ≡ [];
  rests : Goes (g.H.Shelf.seen l.initial.shelf).told (g.H.Shelf.seen l.shelf).told SameButDraft;
  counts : NoneFailedFiling (filed (g.H.Shelf.seen l.initial.shelf) (g.F.Site.seen l.initial.site)) (filed (g.H.Shelf.seen l.shelf) (g.F.Site.seen l.site));
  files : (g.F.Site.seen l.site).told ≡ (g.F.Site.seen l.initial.site).told;
}

abbrev pub decreases-loop-found : goal.decreases-loop-found
decreases-loop-found g l = most_bytes + 1 - l.total
