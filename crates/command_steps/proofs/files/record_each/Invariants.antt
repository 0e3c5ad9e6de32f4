use Rattle.std.proofs.Common.{◌≡◌, List, [], ℕ, take}
use Rattle.edge_io.specs.Steps.{Goes, HasDraft}
use Rattle.run_shelf.specs.Drafts.{SameButDraft}
use Rattle.command_steps.specs.Files.{RecordsInTurn}
use Rattle.command_steps.specs.Hearing.{HearsMore}
use Rattle.command_steps.specs.Outside.{filed}
use Rattle.command_steps.proofs.files.record_each.Given as goal

-- the files so far were recorded
abbrev pub invariant-loop-name : goal.invariant-loop-name
invariant-loop-name g l = record {
  done : (run : List ℕ) × RecordsInTurn (take l.name-index l.names) (filed (g.H.Shelf.seen l.initial.shelf) (g.F.Site.seen l.initial.site)) (filed (g.H.Shelf.seen l.shelf) (g.F.Site.seen l.site)) run × HearsMore g.L.Listener.heard l.fn.listener l.listener run;
  lane : l.lane ≡ l.name-index;
  draft : HasDraft (g.H.Shelf.seen l.shelf).told;
  empty : l.packets.items ≡ [];
  rests : Goes (g.H.Shelf.seen l.initial.shelf).told (g.H.Shelf.seen l.shelf).told SameButDraft;
  files : (g.F.Site.seen l.site).told ≡ (g.F.Site.seen l.initial.site).told;
}
