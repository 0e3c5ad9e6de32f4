use Rattle.std.proofs.Common.{◌∙◌, refl}
use Rattle.suite_causes.proofs.RanLemmas.{gathered_none, gathered_more}
use Rattle.suite_causes.proofs.lane_ids.gather_notes.Goals as goal

pub loop-note-init : goal.loop-note-init
loop-note-init c = record { gathered = λ notes h. gathered_none _ notes _ _ h; ended = refl }

pub loop-note-preserved : goal.loop-note-preserved
loop-note-preserved c = record {
  gathered = λ notes h. gathered_more _ notes _ _ _ _ _ _ (c.loop-note.invariant.gathered notes h) (rw (c.in-Some.is) at c.in_ok-note.ensures.some) c.next.ensures.ended c.in_ok-gather_note.ensures;
  ended = c.next.ensures.ended ∙ c.loop-note.invariant.ended;
}
