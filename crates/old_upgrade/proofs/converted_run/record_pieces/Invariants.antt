use Rattle.std.proofs.Common.{◌≡◌, ◌*◌, [], length}
use Rattle.edge_io.specs.Steps.{Goes, HasDraft, HasFile}
use Rattle.run_shelf.specs.Drafts.{SameButDraft}
use Rattle.run_shelf.specs.Repository.{full_name}
use Rattle.old_runs.specs.Fed.{IsFed}
use Rattle.old_upgrade.specs.Recording.{HasRecordedTo}
use Rattle.old_upgrade.proofs.converted_run.record_pieces.Given as goal

-- the pieces so far were fed, and what they tell stands behind the draft
abbrev pub invariant-loop-piece : goal.invariant-loop-piece
invariant-loop-piece g l = record {
  room : length l.buf ≡ 65536;
  recorded : Goes (g.H.Shelf.seen l.initial.shelf).told (g.H.Shelf.seen l.shelf).told (HasRecordedTo (full_name l.number) (l.piece * 65536) l.file);
  there : HasFile (g.H.Shelf.seen l.shelf).told (full_name l.number);
  draft : HasDraft (g.H.Shelf.seen l.shelf).told;
  empty : l.packets.items ≡ [];
  going_on : IsFed l.file;
  rests : Goes (g.H.Shelf.seen l.initial.shelf).told (g.H.Shelf.seen l.shelf).told SameButDraft;
  count : (g.H.Shelf.seen l.shelf).faults ≡ (g.H.Shelf.seen l.initial.shelf).faults;
}
