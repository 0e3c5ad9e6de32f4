-- What a lane has still to give, step by step.
use Rattle.std.proofs.Common.{◌≡◌, ℕ, ◌<◌, ◌≤◌, Bool, true, false, List, [], ◌∷◌, ◌++◌, length, refl, inl, inr, sym, ap, ◌∙◌, append_assoc}
use Rattle.std.proofs.lemmas.List.{append-nil}
use Rattle.std.proofs.lemmas.List.Elements.{All-nil}
use Rattle.packet_codec.specs.declared.event.Event.{Event}
use Rattle.packet_codec.specs.Grammar.{AreBytes}
use Rattle.stream_reader.specs.declared.note.Note.{Note}
use Rattle.stream_reader.specs.Room.{most_held}
use Rattle.stream_reader.specs.Notes.{notes_of, HasNotes}
use Rattle.stream_reader.specs.Stream.{HasGiven as GivesStream}
use Rattle.stream_reader.proofs.CutLemmas.{one_cut}
use Rattle.stream_reader.proofs.FrontLemmas.{are_both}
use Rattle.stream_reader.proofs.RoomLemmas.{spent_short}
use Rattle.worker_lane.specs.Inside.{ends_inside_behind, inside_under, inside_events}
use Rattle.worker_lane.specs.Recorded.{recorded_note, recorded_events}
use Rattle.worker_lane.specs.Scribing.{Scribing, scribe_holding, finished, TakesNote, TakesInside, IsAsBefore, GivesEvent, HasNone}
use Rattle.worker_lane.specs.Rest.{notes_of_stream, notes_are, inside_at, events_left}
use Rattle.stream_end.proofs.InsideLemmas.{given_alike}

-- ---- a stream has one list of notes

one_list : (bytes : List ℕ) (notes others : List Note) → AreBytes bytes → HasNotes bytes notes → HasNotes bytes others → notes ≡ others
one_list bytes notes others are h k = h.made ∙ ap notes_of (one_cut h.pieces k.pieces bytes are h.cut k.cut) ∙ sym k.made

pub the_notes : (bytes : List ℕ) (notes : List Note) → AreBytes bytes → HasNotes bytes notes → notes_of_stream bytes ≡ notes
the_notes bytes notes are h = one_list bytes (notes_of_stream bytes) notes are (notes_are bytes) h

pub no_notes : notes_of_stream [] ≡ []
no_notes = the_notes [] [] (All-nil (λ byte. byte < 256)) (record { pieces = []; cut = refl; made = refl })

-- ---- an event is given

-- either more may be fed, or nothing follows
notes_taken : (ended : Bool) (bytes rest more : List ℕ) (given : Note) → GivesStream ended bytes (given ∷ []) rest → AreBytes more → (ended ≡ true → more ≡ []) → HasNotes (bytes ++ more) (given ∷ notes_of_stream (rest ++ more))
notes_taken false bytes rest more given first are none = first.notes more (notes_of_stream (rest ++ more)) are (notes_are (rest ++ more))
notes_taken true bytes rest more given first are none =
    let empty : more ≡ [] = none refl in
    let whole : HasNotes bytes (given ∷ notes_of_stream rest) = first.notes (notes_of_stream rest) (notes_are rest) in
    rw (empty, append-nil bytes, append-nil rest) whole

-- whether an end inside a packet is to be told of hangs on what is held
inside_taken : (ended : Bool) (before after : Scribing) (more : List ℕ) → (t : TakesNote before after) → before.held.ended ≡ ended → AreBytes before.held.bytes → AreBytes more → inside_at ended before.inside before.missing (before.held.bytes ++ more) ≡ inside_at ended after.inside after.missing (after.held.bytes ++ more)
inside_taken true before after more t ended are are_more = sym t.inside
inside_taken false before after more t ended are are_more =
    let first : GivesStream false before.held.bytes (t.note ∷ []) after.held.bytes = rw ended at t.given.first in
    ap (λ (l : List ℕ). ends_inside_behind before.missing (l ++ more)) t.given.parts
    ∙ given_alike before.missing t.given.front after.held.bytes more t.note t.given.made (rw (t.given.parts) at first) (rw (t.given.parts) at are) are_more
    ∙ ap (λ (n : ℕ). ends_inside_behind n (after.held.bytes ++ more)) (sym t.missing)

taken_left : (before after : Scribing) (more : List ℕ) → TakesNote before after → AreBytes before.held.bytes → AreBytes more → (before.held.ended ≡ true → more ≡ []) → events_left before more ≡ events_left after more
taken_left before after more t are are_more none =
    let notes : notes_of_stream (before.held.bytes ++ more) ≡ t.note ∷ notes_of_stream (after.held.bytes ++ more) =
    the_notes (before.held.bytes ++ more) (t.note ∷ notes_of_stream (after.held.bytes ++ more)) (are_both before.held.bytes more are are_more) (notes_taken before.held.ended before.held.bytes after.held.bytes more t.note t.given.first are_more none) in
    let last_before : List Event = inside_events before.lane (inside_at before.held.ended before.inside before.missing (before.held.bytes ++ more)) in
    let last_after : List Event = inside_events after.lane (inside_at after.held.ended after.inside after.missing (after.held.bytes ++ more)) in
    let last : last_before ≡ last_after =
    ap (inside_events before.lane) (inside_taken before.held.ended before after more t refl are are_more)
    ∙ ap (λ (ended : Bool). inside_events before.lane (inside_at ended after.inside after.missing (after.held.bytes ++ more))) (sym t.ended)
    ∙ ap (λ (lane : ℕ). inside_events lane (inside_at after.held.ended after.inside after.missing (after.held.bytes ++ more))) (sym t.lane) in
    ap (λ (l : List Event). l ++ (recorded_events before.lane (notes_of_stream (before.held.bytes ++ more)) ++ last_before)) t.none
    ∙ ap (λ (l : List Note). recorded_events before.lane l ++ last_before) notes
    ∙ ap (λ (l : List Event). (recorded_note before.lane t.note ++ recorded_events before.lane (notes_of_stream (after.held.bytes ++ more))) ++ l) last
    ∙ append_assoc (recorded_note before.lane t.note) (recorded_events before.lane (notes_of_stream (after.held.bytes ++ more))) last_after
    ∙ sym (ap (λ (l : List Event). l ++ (recorded_events after.lane (notes_of_stream (after.held.bytes ++ more)) ++ last_after)) t.waiting
    ∙ ap (λ (lane : ℕ). recorded_note before.lane t.note ++ (recorded_events lane (notes_of_stream (after.held.bytes ++ more)) ++ last_after)) t.lane)

-- behind the last note the end is told of
told_left : (before after : Scribing) (more : List ℕ) → TakesInside before after → (before.held.ended ≡ true → more ≡ []) → events_left before more ≡ events_left after more
told_left before after more t none =
    let empty : more ≡ [] = none t.ended in
    let nothing : before.held.bytes ++ more ≡ [] = ap (λ (l : List ℕ). l ++ more) t.no_bytes ∙ empty in
    ap (λ (l : List Event). l ++ (recorded_events before.lane (notes_of_stream (before.held.bytes ++ more)) ++ inside_events before.lane (inside_at before.held.ended before.inside before.missing (before.held.bytes ++ more)))) t.none
    ∙ ap (λ (l : List ℕ). recorded_events before.lane (notes_of_stream l) ++ inside_events before.lane (inside_at before.held.ended before.inside before.missing l)) nothing
    ∙ ap (λ (l : List Note). recorded_events before.lane l ++ inside_events before.lane (inside_at before.held.ended before.inside before.missing [])) no_notes
    ∙ ap (λ (ended : Bool). inside_events before.lane (inside_at ended before.inside before.missing [])) t.ended
    ∙ ap (inside_events before.lane) t.inside
    ∙ sym (ap (λ (s : Scribing). events_left s more) t.after_is
    ∙ ap (λ (l : List ℕ). inside_under before.lane ∷ (recorded_events before.lane (notes_of_stream l) ++ inside_events before.lane (inside_at before.held.ended false before.missing l))) nothing
    ∙ ap (λ (l : List Note). inside_under before.lane ∷ (recorded_events before.lane l ++ inside_events before.lane (inside_at before.held.ended false before.missing []))) no_notes
    ∙ ap (λ (ended : Bool). inside_under before.lane ∷ inside_events before.lane (inside_at ended false before.missing [])) t.ended)

same_left : (before after : Scribing) (more : List ℕ) → IsAsBefore before after → AreBytes before.held.bytes → AreBytes more → (before.held.ended ≡ true → more ≡ []) → events_left before more ≡ events_left after more
same_left before after more (inl same) are are_more none = ap (λ (s : Scribing). events_left s more) (sym same)
same_left before after more (inr (inl t)) are are_more none = taken_left before after more t are are_more none
same_left before after more (inr (inr t)) are are_more none = told_left before after more t none

pub given_left : (before after : Scribing) (event : Event) (more : List ℕ) → GivesEvent before event after → AreBytes before.held.bytes → AreBytes more → (before.held.ended ≡ true → more ≡ []) → events_left before more ≡ event ∷ events_left after more
given_left before after event more g are are_more none =
    same_left before g.waiting more g.ready are are_more none ∙ ap (λ (s : Scribing). events_left s more) g.first

-- ---- bytes are fed

pub fed_left : (before : Scribing) (piece more : List ℕ) → before.held.ended ≡ false → events_left before (piece ++ more) ≡ events_left (scribe_holding before (before.held.bytes ++ piece)) more
fed_left before piece more going_on =
    ap (λ (l : List ℕ). before.waiting ++ (recorded_events before.lane (notes_of_stream l) ++ inside_events before.lane (inside_at before.held.ended before.inside before.missing l))) (sym (append_assoc before.held.bytes piece more))
    ∙ ap (λ (ended : Bool). before.waiting ++ (recorded_events before.lane (notes_of_stream ((before.held.bytes ++ piece) ++ more)) ++ inside_events before.lane (inside_at ended before.inside before.missing ((before.held.bytes ++ piece) ++ more)))) going_on

-- the stream has ended
pub ended_left : (before : Scribing) → before.held.ended ≡ false → events_left before [] ≡ events_left (finished before) []
ended_left before going_on =
    ap (λ (ended : Bool). before.waiting ++ (recorded_events before.lane (notes_of_stream (before.held.bytes ++ [])) ++ inside_events before.lane (inside_at ended before.inside before.missing (before.held.bytes ++ [])))) going_on
    ∙ ap (λ (l : List ℕ). before.waiting ++ (recorded_events before.lane (notes_of_stream (before.held.bytes ++ [])) ++ inside_events before.lane (ends_inside_behind before.missing l))) (append-nil before.held.bytes)

-- ---- nothing is left

pub none_left : (scribe : Scribing) → scribe.held.ended ≡ true → HasNone scribe → events_left scribe [] ≡ []
none_left scribe ended ((none, spent), inside) =
    let empty : scribe.held.bytes ≡ [] = rw ended at spent in
    ap (λ (l : List Event). l ++ (recorded_events scribe.lane (notes_of_stream (scribe.held.bytes ++ [])) ++ inside_events scribe.lane (inside_at scribe.held.ended scribe.inside scribe.missing (scribe.held.bytes ++ [])))) none
    ∙ ap (λ (l : List ℕ). recorded_events scribe.lane (notes_of_stream (l ++ [])) ++ inside_events scribe.lane (inside_at scribe.held.ended scribe.inside scribe.missing (l ++ []))) empty
    ∙ ap (λ (l : List Note). recorded_events scribe.lane l ++ inside_events scribe.lane (inside_at scribe.held.ended scribe.inside scribe.missing [])) no_notes
    ∙ ap (λ (e : Bool). inside_events scribe.lane (inside_at e scribe.inside scribe.missing [])) ended
    ∙ ap (inside_events scribe.lane) inside

-- ---- few bytes are held where none is decided

pub few_held : (scribe : Scribing) → scribe.held.ended ≡ false → HasNone scribe → length scribe.held.bytes ≤ most_held
few_held scribe going_on none = spent_short scribe.held.ended scribe.held.bytes going_on none.0.1
