-- What is recorded of several streams, each under a lane of its own.
use Rattle.std.proofs.Common.{◌≡◌, ℕ, ◌<◌, ◌≤◌, Bool, true, false, List, [], ◌∷◌, length, get_or, map, sym, subst, arith}
use Rattle.std.specs.List.{All, flat_map}
use Rattle.std.proofs.lemmas.List.Elements.{All-nil, All-cons, All-append, All-map}
use Rattle.packet_codec.specs.declared.event.Event.{Event}
use Rattle.packet_codec.specs.Grammar.{AreBytes}
use Rattle.packet_codec.specs.Canonical.{IsEvent, Fits, canonical}
use Rattle.packet_codec.specs.Halves.{first_half, second_half}
use Rattle.packet_codec.specs.Routing.{under}
use Rattle.packet_codec.specs.Lanes.{is_of_lane, AreOfLane, IsMerge, joined, list_of}
use Rattle.packet_codec.proofs.MergeLemmas.{under_is_in_lane, joined_is_merge, packets_of_merge}
use Rattle.stream_reader.specs.declared.note.Note.{Note}
use Rattle.stream_reader.specs.declared.note.Note.TheVariants as note
use Rattle.stream_reader.specs.Notes.{HasEvents, stdout_event}
use Rattle.stream_reader.proofs.NotesLemmas.{are_full, are_made, packet_pieces, notes_of_packets, events_of_packets, cut_of_written}
use Rattle.worker_lane.specs.Inside.{ends_inside, inside_event, inside_events}
use Rattle.worker_lane.specs.Recorded.{HasRecorded, pieces_of, stdout_under, recorded_event, recorded_events}
use Rattle.worker_lane.specs.RecordedLanes.{AreRecorded}
use Rattle.worker_lane.proofs.InsideEventLemmas.{inside_has_packets}
use Rattle.worker_lane.proofs.NoteLemmas.{each_way, both_have_packets, notes_have_packets, AreWritable}

pub have_packets : (lane : ℕ) (bytes : List ℕ) (events : List Event) → lane < 64 → AreBytes bytes → HasRecorded lane bytes events → AreWritable events
have_packets lane bytes events small are h =
    let notes : AreWritable (recorded_events lane h.notes) = notes_have_packets lane h.notes bytes small are (rw (h.are_notes.made) (are_made h.are_notes.pieces [] bytes h.are_notes.cut)) (rw (h.are_notes.made) (are_full h.are_notes.pieces [] (omega arith))) in
    rw (h.made) (both_have_packets (recorded_events lane h.notes) (inside_events lane (ends_inside bytes)) notes (inside_has_packets lane (ends_inside bytes) small))

-- the packets of events, as a stream, are these events
pub read_again : (events : List Event) → All IsEvent events → All Fits events → HasEvents (flat_map canonical events) events
read_again events are fit = (map note.Event events, record { pieces = packet_pieces events; cut = cut_of_written events are fit; made = sym (notes_of_packets events) }, sym (events_of_packets events))

abbrev Own : ℕ → Event → Type 0
Own lane e = is_of_lane lane e ≡ true

own : (lane : ℕ) (e : Event) → lane < 64 → Own lane (under lane e)
own lane e small = under_is_in_lane lane e.route small

one_own : (lane : ℕ) (e : Event) → lane < 64 → AreOfLane lane (under lane e ∷ [])
one_own lane e small = All-cons (Own lane) (under lane e) [] (own lane e small) (All-nil (Own lane))

event_own : (lane : ℕ) (e : Event) → lane < 64 → AreOfLane lane (recorded_event lane e)
event_own lane e small = each_way (AreOfLane lane) lane e
    (λ fits. one_own lane e small)
    (λ long. All-cons (Own lane) (under lane (first_half e)) (under lane (second_half e) ∷ []) (own lane (first_half e) small) (one_own lane (second_half e) small))
    (λ long short. All-map (Own lane) (stdout_under lane) (pieces_of (canonical e)) (λ k d below. own lane (stdout_event (get_or (pieces_of (canonical e)) k d)) small))

notes_own : (lane : ℕ) (notes : List Note) → lane < 64 → AreOfLane lane (recorded_events lane notes)
notes_own lane [] small = All-nil (Own lane)
notes_own lane (note.Event e ∷ notes) small = All-append (Own lane) (recorded_event lane e) (recorded_events lane notes) (event_own lane e small) (notes_own lane notes small)
notes_own lane (note.Foreign bytes ∷ notes) small = All-append (Own lane) (stdout_under lane bytes ∷ []) (recorded_events lane notes) (one_own lane (stdout_event bytes) small) (notes_own lane notes small)

inside_own : (lane : ℕ) (inside : Bool) → lane < 64 → AreOfLane lane (inside_events lane inside)
inside_own lane true small = one_own lane inside_event small
inside_own lane false small = All-nil (Own lane)

pub recorded_own : (lane : ℕ) (bytes : List ℕ) (events : List Event) → lane < 64 → HasRecorded lane bytes events → AreOfLane lane events
recorded_own lane bytes events small h = subst (AreOfLane lane) (sym h.made) (All-append (Own lane) (recorded_events lane h.notes) (inside_events lane (ends_inside bytes)) (notes_own lane h.notes small) (inside_own lane (ends_inside bytes) small))

pub recorded_joined : (streams : List (List ℕ)) (lists : List (List Event)) → length lists ≤ 64 → AreRecorded streams lists → IsMerge (joined lists) lists
recorded_joined streams lists few are = joined_is_merge lists few (λ lane below. recorded_own lane (get_or streams lane []) (list_of lists lane) (omega arith) (are.each lane below))

pub merge_read_again : (streams : List (List ℕ)) (lists : List (List Event)) (events : List Event) → length lists ≤ 64 → All AreBytes streams → AreRecorded streams lists → IsMerge events lists → HasEvents (flat_map canonical events) events
merge_read_again streams lists events few bytes are merge =
    let packets = packets_of_merge events lists merge (λ lane below.
    let p = have_packets lane (get_or streams lane []) (list_of lists lane) (omega arith) (bytes lane [] (omega (arith, are.count))) (are.each lane below) in
    (p.are_events, p.fit)) in
    read_again events packets.0 packets.1
