use Rattle.std.proofs.Common.{◌∙◌}
use Rattle.run_ledger.proofs.FoldLemmas.{folds_none, folds_more}
use Rattle.run_ledger.proofs.note_fold.fold_notes.Goals as goal

pub loop-note-init : goal.loop-note-init
loop-note-init c = record { folded = λ notes h. folds_none _ _ _ h; ended = λ i. c.args.reader.now.ended }

pub loop-note-preserved : goal.loop-note-preserved
loop-note-preserved c = record {
  folded = λ notes h. folds_more notes _ _ _ _ _ _ (c.loop-note.invariant.folded notes h) (rw (c.in-Some.is) at c.in_ok-note.ensures.some) c.next.ensures.ended c.in_ok-fold_note.ensures;
  ended = c.next.ensures.ended ∙ c.loop-note.invariant.ended;
}
