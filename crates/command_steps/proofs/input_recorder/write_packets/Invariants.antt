use Rattle.std.proofs.Common.{◌≡◌, []}
use Rattle.edge_io.specs.Steps.{Goes, HasDraft}
use Rattle.run_shelf.specs.Drafts.{SameButDraft}
use Rattle.worker_lane.specs.Scribing.{most_left}
use Rattle.command_steps.specs.Hearing.{HearsMore}
use Rattle.command_steps.specs.Recording.{WritesPackets}
use Rattle.command_steps.proofs.input_recorder.write_packets.Given as goal

-- the packets given so far were written
abbrev pub invariant-loop-more : goal.invariant-loop-more
invariant-loop-more g l = record {
  written : WritesPackets (g.H.Shelf.seen l.initial.shelf) (g.H.Shelf.seen l.shelf) l.fn.scribe l.scribe (HearsMore g.L.Listener.heard l.fn.listener l.listener);
  empty : l.packets.items ≡ [];
  draft : HasDraft (g.H.Shelf.seen l.shelf).told;
  rests : Goes (g.H.Shelf.seen l.initial.shelf).told (g.H.Shelf.seen l.shelf).told SameButDraft;
}

abbrev pub decreases-loop-more : goal.decreases-loop-more
decreases-loop-more g l = most_left l.scribe
