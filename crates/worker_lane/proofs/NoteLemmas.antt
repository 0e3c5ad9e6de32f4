-- The events that are recorded of a note.
use Rattle.std.proofs.Common.{◌≡◌, ℕ, ◌<◌, ◌≤◌, Bool, true, false, Option, List, [], ◌∷◌, ◌++◌, length, map, take, All, cond, refl, sym, ◌∙◌, subst, inl, inr, ap, arith}
use Rattle.std.proofs.lemmas.Bool.{cases_lt, cond-true, cond-false, le-leb, lt-leb}
use Rattle.std.proofs.lemmas.Bool.Decides.{nat_tests}
use Rattle.std.proofs.lemmas.List.{length-take, length-map, append-nil}
use Rattle.std.proofs.lemmas.List.Elements.{All-nil, All-cons, All-append, All-map, All-weaker}
use Rattle.packet_codec.specs.declared.event.Event.{Event}
use Rattle.packet_codec.specs.Grammar.{AreBytes}
use Rattle.packet_codec.specs.Packet.{SpellsEvent}
use Rattle.packet_codec.specs.Canonical.{canonical, canonical_fields, canonical_size, packet_size, IsEvent, Fits}
use Rattle.packet_codec.specs.Halves.{has_halves, first_half, second_half}
use Rattle.packet_codec.specs.Routing.{under}
use Rattle.packet_codec.proofs.LeastLemmas.{size_least, spelled_fits}
use Rattle.packet_codec.proofs.SpellingLemmas.{length_canonical}
use Rattle.packet_codec.proofs.LaneLemmas.{is_event_under}
use Rattle.stream_reader.specs.declared.note.Note.{Note}
use Rattle.stream_reader.specs.declared.note.Note.TheVariants as note
use Rattle.stream_reader.specs.Notes.{HasNotes, AreFullRuns}
use Rattle.stream_reader.specs.Stream.{HasGiven, IsMadeOf, AreMadeOf}
use Rattle.stream_reader.specs.declared.first_note.First.{First}
use Rattle.stream_reader.specs.declared.first_note.First.TheVariants as found
use Rattle.stream_reader.specs.First.{FirstIs}
use Rattle.stream_reader.proofs.FrontLemmas.{are_before, are_behind}
use Rattle.stream_reader.proofs.NotesLemmas.{are_full}
use Rattle.stream_reader.proofs.ExistLemmas.{some_notes}
use Rattle.worker_lane.specs.Recorded.{pieces_of, stdout_under, in_halves, in_pieces, recorded_event, recorded_note, recorded_events, HasPacket}
use Rattle.worker_lane.specs.Waiting.{IsShortNote}
use Rattle.worker_lane.proofs.HalfLemmas.{first_has_packet, second_has_packet}
use Rattle.worker_lane.proofs.PiecesLemmas.{IsPiece, are_pieces, pieces_count}
use Rattle.worker_lane.proofs.EventLemmas.{spelled_is_event, canonical_bytes, stdout_fits, stdout_is_event}

-- ---- a foreign note is short

-- the bytes of a run at the front are few
pub run_is_short : (ended : Bool) (bytes front : List ℕ) (first : First) (size : ℕ) (behind : Option ℕ) → FirstIs ended bytes first → first ≡ found.Foreign size behind → front ≡ take size bytes → length front ≤ 65536
run_is_short ended bytes front first size behind is first-is front-is =
    let run : FirstIs ended bytes (found.Foreign size behind) = rw first-is at is in
    omega (arith, run.1.short, ap length front-is, length-take size bytes)

whole_front : (ended : Bool) (bytes rest : List ℕ) (given others : List Note) → HasGiven ended bytes given rest → HasNotes rest others → (whole : List ℕ) × HasNotes whole (given ++ others)
whole_front false bytes rest given others first h = (bytes ++ [], first.notes [] others (All-nil (λ byte. byte < 256)) (rw (append-nil rest) h))
whole_front true bytes rest given others first h = (bytes, first.notes others h)

are_full_runs : (bytes : List ℕ) (notes : List Note) → HasNotes bytes notes → AreFullRuns notes
are_full_runs bytes notes h = rw (h.made) (are_full h.pieces [] (omega arith))

short_in_stream : (bytes run : List ℕ) (others : List Note) → HasNotes bytes (note.Foreign run ∷ others) → length run ≤ 65536
short_in_stream bytes run others h = (are_full_runs bytes (note.Foreign run ∷ others) h).1

-- some list of notes follows it
pub note_is_short : (ended : Bool) (bytes front rest : List ℕ) (given : Note) → IsMadeOf given front → HasGiven ended bytes (given ∷ []) rest → IsShortNote given
note_is_short ended bytes front rest (note.Event e) made first = spelled_fits front e made
note_is_short ended bytes front rest (note.Foreign run) made first =
    let behind = some_notes rest in
    let whole = whole_front ended bytes rest (note.Foreign run ∷ []) behind.0 first behind.1 in
    short_in_stream whole.0 run behind.0 whole.1

-- ---- an event is one, two or many

pub recorded_whole : (lane : ℕ) (e : Event) → canonical_size (under lane e) ≤ 4194303 → recorded_event lane e ≡ under lane e ∷ []
recorded_whole lane e small = cond-true _ _ _ (le-leb (canonical_size (under lane e)) 4194303 small)

recorded_long : (lane : ℕ) (e : Event) → 4194303 < canonical_size (under lane e) → recorded_event lane e ≡ cond (has_halves e) (in_halves lane e) (in_pieces lane e)
recorded_long lane e large = cond-false _ _ _ (lt-leb (canonical_size (under lane e)) 4194303 large)

pub recorded_in_halves : (lane : ℕ) (e : Event) → 4194303 < canonical_size (under lane e) → has_halves e ≡ true → recorded_event lane e ≡ in_halves lane e
recorded_in_halves lane e large long = recorded_long lane e large ∙ ap (λ (b : Bool). cond b (in_halves lane e) (in_pieces lane e)) long

pub recorded_in_pieces : (lane : ℕ) (e : Event) → 4194303 < canonical_size (under lane e) → has_halves e ≡ false → recorded_event lane e ≡ in_pieces lane e
recorded_in_pieces lane e large short = recorded_long lane e large ∙ ap (λ (b : Bool). cond b (in_halves lane e) (in_pieces lane e)) short

-- what holds of each of the three holds of what is recorded
pub each_way : (P : List Event → Type 0) (lane : ℕ) (e : Event) → (Fits (under lane e) → P (under lane e ∷ [])) → (has_halves e ≡ true → P (in_halves lane e)) → ((Fits (under lane e) → ⊥) → has_halves e ≡ false → P (in_pieces lane e)) → P (recorded_event lane e)
each_way P lane e whole halves pieces = elim (cases_lt 4194303 (canonical_size (under lane e))) [
  | inl large ↦ subst P (sym (recorded_long lane e large)) (elim (has_halves e) as (λ b. has_halves e ≡ b → P (cond b (in_halves lane e) (in_pieces lane e))) [ true ↦ halves | false ↦ pieces (λ fits. omega (arith, large, fits.size)) ] refl)
  | inr small ↦ subst P (sym (recorded_whole lane e small)) (whole (record { size = small }))
]

-- a packet has more than two bytes
packet_some : (n : ℕ) → 8 ≤ packet_size n
packet_some n = grind (arith, nat_tests)

-- no more than its bytes
pub recorded_count : (lane : ℕ) (given : Note) (front : List ℕ) → IsMadeOf given front → 0 < length front → length (recorded_note lane given) ≤ length front
recorded_count lane (note.Foreign run) front made some = omega arith
recorded_count lane (note.Event e) front made some = each_way
    (λ (events : List Event). length events ≤ length front)
    lane e
    (λ fits. omega (arith, some))
    (λ long. omega (arith, size_least front e made, packet_some (length (canonical_fields e))))
    (λ long short. omega (
      arith,
      length-map (pieces_of (canonical e)) (stdout_under lane),
      pieces_count (canonical e),
      length_canonical e (spelled_fits front e made),
      size_least front e made,
    ))

-- ---- each can be encoded

pub record AreWritable (events : List Event) : Type 0 where
  pub are_events : All IsEvent events
  pub fit : All Fits events

one_packet : (e : Event) → IsEvent e → Fits e → AreWritable (e ∷ [])
one_packet e is fits = record { are_events = All-cons IsEvent e [] is (All-nil IsEvent); fit = All-cons Fits e [] fits (All-nil Fits) }

packet_of : (e : Event) → HasPacket e → AreWritable (e ∷ [])
packet_of e has = one_packet e has.is_event has.fits

pub pieces_have_packets : (lane : ℕ) (pieces : List (List ℕ)) → lane < 64 → All IsPiece pieces → AreWritable (map (stdout_under lane) pieces)
pieces_have_packets lane pieces small are = record {
  are_events = All-map IsEvent (stdout_under lane) pieces (All-weaker IsPiece (λ piece. IsEvent (stdout_under lane piece)) (λ piece is. stdout_is_event lane piece small is.are_bytes is.short) pieces are);
  fit = All-map Fits (stdout_under lane) pieces (All-weaker IsPiece (λ piece. Fits (stdout_under lane piece)) (λ piece is. stdout_fits lane piece small is.short) pieces are);
}

pub both_have_packets : (first more : List Event) → AreWritable first → AreWritable more → AreWritable (first ++ more)
both_have_packets first more h k = record { are_events = All-append IsEvent first more h.are_events k.are_events; fit = All-append Fits first more h.fit k.fit }

pub event_has_packets : (lane : ℕ) (e : Event) (front : List ℕ) → lane < 64 → AreBytes front → SpellsEvent front e → AreWritable (recorded_event lane e)
event_has_packets lane e front small are made = each_way AreWritable lane e
    (λ fit. one_packet (under lane e) (is_event_under lane e small (spelled_is_event front e are made) fit) fit)
    (λ long. both_have_packets (under lane (first_half e) ∷ []) (under lane (second_half e) ∷ [])
    (packet_of (under lane (first_half e)) (first_has_packet lane front e small are made long))
    (packet_of (under lane (second_half e)) (second_has_packet lane front e small are made long)))
    (λ long short. pieces_have_packets lane (pieces_of (canonical e)) small (are_pieces (canonical e) (canonical_bytes front e are made)))

pub foreign_has_packet : (lane : ℕ) (run front : List ℕ) → lane < 64 → AreBytes front → run ≡ front → length run ≤ 65536 → AreWritable (stdout_under lane run ∷ [])
foreign_has_packet lane run front small are made short =
    let are_run : AreBytes run = rw made are in
    one_packet (stdout_under lane run) (stdout_is_event lane run small are_run short) (stdout_fits lane run small short)

pub notes_have_packets : (lane : ℕ) (notes : List Note) (bytes : List ℕ) → lane < 64 → AreBytes bytes → AreMadeOf notes bytes → AreFullRuns notes → AreWritable (recorded_events lane notes)
notes_have_packets lane [] bytes small are made full = record { are_events = All-nil IsEvent; fit = All-nil Fits }
notes_have_packets lane (note.Event e ∷ notes) bytes small are (front, rest, parts, first, more) full =
    let whole : AreBytes (front ++ rest) = rw parts at are in
    both_have_packets (recorded_event lane e) (recorded_events lane notes) (event_has_packets lane e front small (are_before front rest whole) first) (notes_have_packets lane notes rest small (are_behind front rest whole) more full)
notes_have_packets lane (note.Foreign run ∷ notes) bytes small are (front, rest, parts, first, more) (some, short, last, full) =
    let whole : AreBytes (front ++ rest) = rw parts at are in
    both_have_packets (stdout_under lane run ∷ []) (recorded_events lane notes) (foreign_has_packet lane run front small (are_before front rest whole) first short) (notes_have_packets lane notes rest small (are_behind front rest whole) more full)
