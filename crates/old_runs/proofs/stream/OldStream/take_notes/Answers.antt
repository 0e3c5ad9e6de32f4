use Rattle.std.proofs.Common.{◌∙◌, refl, sym, ap, subst}
use Rattle.stream_reader.specs.Stream.{GivesNote}
use Rattle.old_runs.proofs.StreamLemmas.{note_fits, takes_none, takes_more}
use Rattle.old_runs.proofs.stream.OldStream.take_notes.Goals as goal

pub loop-note-init : goal.loop-note-init
loop-note-init c = record { taken = λ notes told. takes_none notes c.args.self.now c.args.packets.now.items told; ended = refl }

pub put_note-requires : goal.put_note-requires
put_note-requires c = note_fits c.loop-note.self.reader c.next.new.self c.in-Some.note (rw (c.in-Some.is) at c.in_ok-note.ensures.some)

pub loop-note-preserved : goal.loop-note-preserved
loop-note-preserved c =
    let step = rw (c.in-Some.is) at c.in_ok-note.ensures.some in
    record {
      taken = λ notes told.
          takes_more notes c.args.self.now c.loop-note.self c.look.new.self _ _ _ c.in-Some.note c.in_ok-told.told (c.loop-note.invariant.taken notes told)
          (subst (λ r. GivesNote c.loop-note.self.reader c.in-Some.note r) (sym c.look.ensures.reader) step) (ap (λ r. r.ended) c.look.ensures.reader ∙ c.next.ensures.ended)
          c.in_ok-told.ensures.event c.in_ok-told.ensures.packets c.in_ok-told.ensures.told c.look.ensures.told;
      ended = ap (λ r. r.ended) c.look.ensures.reader ∙ c.next.ensures.ended ∙ c.loop-note.invariant.ended;
    }
