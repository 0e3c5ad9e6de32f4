use Rattle.std.proofs.Common.{List, ◌++◌, ◌∙◌, refl, sym, ap}
use Rattle.stream_reader.specs.Notes.{notes_of}
use Rattle.stream_reader.proofs.CutLemmas.{one_cut}
use Rattle.stream_reader.proofs.ExistLemmas.{some_notes}
use Rattle.stream_reader.specs.declared.note.Note.{Note}
use Rattle.worker_lane.specs.Inside.{ends_inside, inside_events}
use Rattle.worker_lane.specs.Recorded.{recorded_events}
use Rattle.worker_lane.proofs.PiecesLemmas.{pieces_joined}
use Rattle.worker_lane.proofs.RecordedLaneLemmas.{have_packets, read_again}
use Rattle.worker_lane.proofs.laws.recorded_streams.Goals as goal

pub returns-clause-some : goal.returns-clause-some
returns-clause-some c = λ lane bytes. let notes = some_notes bytes in (recorded_events lane notes.0 ++ inside_events lane (ends_inside bytes), record { notes = notes.0; are_notes = notes.1; made = refl })

pub returns-clause-events : goal.returns-clause-events
returns-clause-events c = λ lane bytes events small are h. let p = have_packets lane bytes events small are h in (p.are_events, p.fit)

pub returns-clause-read_again : goal.returns-clause-read_again
returns-clause-read_again c = λ lane bytes events small are h.
    let p = have_packets lane bytes events small are h in
    read_again events p.are_events p.fit

pub returns-clause-one_list : goal.returns-clause-one_list
returns-clause-one_list c = λ lane bytes events others are h k.
    h.made ∙ ap (λ (l : List Note). recorded_events lane l ++ inside_events lane (ends_inside bytes)) (h.are_notes.made ∙ ap notes_of (one_cut h.are_notes.pieces k.are_notes.pieces bytes are h.are_notes.cut k.are_notes.cut) ∙ sym k.are_notes.made) ∙ sym k.made

pub returns-clause-joined : goal.returns-clause-joined
returns-clause-joined c = pieces_joined
