use Rattle.std.proofs.Common.{◌∙◌, refl}
use Rattle.last_failures.proofs.GatherLemmas.{fits_given, gathers_none, gathers_more}
use Rattle.last_failures.proofs.gathered_parts.gather_notes.Goals as goal

pub loop-note-init : goal.loop-note-init
loop-note-init c = record { gathers = λ notes h. gathers_none _ notes _ _ h; ended = refl }

pub take_note-requires : goal.take_note-requires
take_note-requires c = fits_given _ _ _ (rw (c.in-Some.is) at c.in_ok-note.ensures.some)

pub loop-note-preserved : goal.loop-note-preserved
loop-note-preserved c = record {
  gathers = λ notes h. gathers_more _ notes _ _ _ _ _ _ (c.loop-note.invariant.gathers notes h) (rw (c.in-Some.is) at c.in_ok-note.ensures.some) c.next.ensures.ended c.in_ok-take_note.ensures;
  ended = c.next.ensures.ended ∙ c.loop-note.invariant.ended;
}
