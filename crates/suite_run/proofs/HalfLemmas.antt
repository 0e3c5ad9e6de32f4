-- The rows of a recorded stream.
use Rattle.std.proofs.Common.{◌≡◌, ℕ, Bool, true, false, true≢false, List, [], ◌∷◌, ◌++◌, map, refl, sym, ◌∙◌, ap, subst, append_assoc}
use Rattle.std.specs.List.{All}
use Rattle.std.proofs.lemmas.List.Elements.{All-head, All-tail}
use Rattle.packet_codec.specs.Canonical.{Fits}
use Rattle.packet_codec.specs.Grammar.{AreBytes}
use Rattle.packet_codec.specs.Halves.{has_halves, first_half, second_half}
use Rattle.packet_codec.specs.Routing.{under}
use Rattle.packet_codec.specs.declared.event.Event.{Event}
use Rattle.stream_reader.specs.declared.note.Note.{Note}
use Rattle.stream_reader.specs.declared.note.Note.TheVariants as note
use Rattle.stream_reader.specs.Notes.{HasNotes, HasEvents, stdout_event, events_of}
use Rattle.stream_reader.proofs.TurnLemmas.{one_notes}
use Rattle.outcome_fold.specs.Rows.{rows_of}
use Rattle.outcome_fold.specs.Routes.{SaySame}
use Rattle.outcome_fold.proofs.HalfLemmas.{halves_say_same}
use Rattle.outcome_fold.proofs.RouteLemmas.{same_says}
use Rattle.suite_run.specs.Halves.{FitsOrIsCut, FitOrAreCut, whole_under}
use Rattle.worker_lane.specs.Endings.{ending_events}
use Rattle.worker_lane.specs.Inside.{ends_inside, inside_events}
use Rattle.worker_lane.specs.Recorded.{in_halves, in_pieces, recorded_event, recorded_events, HasRecorded}
use Rattle.worker_lane.specs.declared.lot.Ending.{Ending}
use Rattle.worker_lane.proofs.NoteLemmas.{each_way}

-- one event more stands at the front of both
one_more : (front some others : List Event) (e : Event) → rows_of ((front ++ e ∷ []) ++ some) ≡ rows_of ((front ++ e ∷ []) ++ others) → rows_of (front ++ e ∷ some) ≡ rows_of (front ++ e ∷ others)
one_more front some others e same = ap rows_of (sym (append_assoc front (e ∷ []) some)) ∙ same ∙ ap rows_of (append_assoc front (e ∷ []) others)

-- what is recorded of an event may stand in its place
event_rows : (lane : ℕ) (front some others : List Event) (e : Event) → FitsOrIsCut lane e → rows_of ((front ++ under lane e ∷ []) ++ some) ≡ rows_of ((front ++ under lane e ∷ []) ++ others) → rows_of (front ++ (recorded_event lane e ++ some)) ≡ rows_of (front ++ under lane e ∷ others)
event_rows lane front some others e cut same =
    let more = one_more front some others (under lane e) same in
    each_way
    (λ (recorded : List Event). rows_of (front ++ (recorded ++ some)) ≡ rows_of (front ++ under lane e ∷ others))
    lane e
    (λ fits. more)
    (λ long. (halves_say_same front some (under lane e)).rows ∙ more)
    (λ large short. absurd (true≢false (sym (cut large) ∙ short)))

notes_rows : (lane : ℕ) (front : List Event) (notes : List Note) (behind : List Event) → FitOrAreCut lane (events_of notes) → rows_of (front ++ (recorded_events lane notes ++ behind)) ≡ rows_of (front ++ (map (under lane) (events_of notes) ++ behind))
notes_rows lane front [] behind cut = refl
notes_rows lane front (note.Foreign run ∷ notes) behind cut =
    one_more front (recorded_events lane notes ++ behind) (map (under lane) (events_of notes) ++ behind) (under lane (stdout_event run))
    (notes_rows lane (front ++ under lane (stdout_event run) ∷ []) notes behind (All-tail (FitsOrIsCut lane) (stdout_event run) (events_of notes) cut))
notes_rows lane front (note.Event e ∷ notes) behind cut =
    let rest = notes_rows lane (front ++ under lane e ∷ []) notes behind (All-tail (FitsOrIsCut lane) e (events_of notes) cut) in
    ap (λ (l : List Event). rows_of (front ++ l)) (append_assoc (recorded_event lane e) (recorded_events lane notes) behind)
    ∙ event_rows lane front (recorded_events lane notes ++ behind) (map (under lane) (events_of notes) ++ behind) e (All-head (FitsOrIsCut lane) e (events_of notes) cut) rest

pub says_the_same : (lane : ℕ) (bytes : List ℕ) (recorded events : List Event) (how : Ending) → AreBytes bytes → HasRecorded lane bytes recorded → HasEvents bytes events → FitOrAreCut lane events → SaySame (recorded ++ ending_events lane how) (whole_under lane bytes events how)
says_the_same lane bytes recorded events how are has (notes, are_notes, events_are) cut =
    let same : has.notes ≡ notes = one_notes bytes has.notes notes are has.are_notes are_notes in
    let cut_so : FitOrAreCut lane (events_of notes) = rw events_are at cut in
    let inside : List Event = inside_events lane (ends_inside bytes) in
    let recorded_is : recorded ≡ recorded_events lane notes ++ inside = has.made ∙ ap (λ (l : List Note). recorded_events lane l ++ inside) same in
    same_says _ _
    (ap (λ (l : List Event). rows_of (l ++ ending_events lane how)) recorded_is
    ∙ ap rows_of (append_assoc (recorded_events lane notes) inside (ending_events lane how))
    ∙ notes_rows lane [] notes (inside ++ ending_events lane how) cut_so
    ∙ ap (λ (l : List Event). rows_of (whole_under lane bytes l how)) (sym events_are))
