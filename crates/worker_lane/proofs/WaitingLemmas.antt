-- The events that are waiting, one by one.
use Rattle.std.proofs.Common.{◌≡◌, ℕ, ◌+◌, ◌-◌, ◌<◌, ◌≤◌, min, Bool, true, false, ◌↔◌, rules, List, [], ◌∷◌, ◌++◌, length, map, take, drop, refl, inl, inr, sym, ap, ◌∙◌, arith}
use Rattle.std.proofs.lemmas.Bool.{cases_lt}
use Rattle.std.proofs.lemmas.List.{length-append, length-map, length-take, length-drop, drop-drop, drop_all, take_all}
use Rattle.packet_codec.specs.declared.event.Event.{Event}
use Rattle.std.specs.Prelude.{IsTrue, Result, Ok, Err, IfOk, Option}
use Rattle.std.specs.Int.{w32, to_be_bytes}
use Rattle.sub_number.specs.Checksum.{crc32}
use Rattle.packet_codec.specs.Canonical.{canonical, canonical_body, canonical_size, Fits}
use Rattle.packet_codec.specs.Grammar.{AreBytes}
use Rattle.packet_codec.specs.Header.{BeginsWithPacket}
use Rattle.packet_codec.specs.Packet.{SpellsEvent}
use Rattle.packet_codec.specs.Halves.{has_halves, first_half, second_half}
use Rattle.packet_codec.proofs.DecidedLemmas.{Decided}
use Rattle.packet_codec.proofs.GrammarLemmas.{fits_from_are}
use Rattle.packet_codec.proofs.LaneLemmas.{is_event_under}
use Rattle.packet_codec.proofs.LeastLemmas.{spelled_fits}
use Rattle.packet_codec.proofs.PacketLemmas.{one_event}
use Rattle.packet_codec.proofs.SpelledLemmas.{read_packet}
use Rattle.packet_codec.proofs.SpellingLemmas.{canonical_spells}
use Rattle.packet_codec.specs.Routing.{under}
use Rattle.stream_reader.specs.declared.first_note.First.{First}
use Rattle.stream_reader.specs.declared.first_note.First.TheVariants as found
use Rattle.stream_reader.specs.declared.note.Note.{Note}
use Rattle.stream_reader.specs.declared.note.Note.TheVariants as note
use Rattle.worker_lane.specs.declared.waiting_note.Spelling.{Spelling}
use Rattle.worker_lane.specs.declared.waiting_note.Waiting.{Waiting}
use Rattle.worker_lane.specs.declared.waiting_note.Waiting.TheVariants as waits
use Rattle.worker_lane.specs.Recorded.{pieces_of, stdout_under, recorded_event, recorded_note, HasPacket}
use Rattle.worker_lane.specs.Waiting.{waiting_events, pieces_left, half_found, half_left, half_left_is, HasPiecesLeft, IsHalved, HasWaitingEvent, PutsOne, PutsNote}
use Rattle.worker_lane.proofs.PiecesLemmas.{pieces_first}
use Rattle.worker_lane.proofs.EventLemmas.{spelled_is_event, canonical_bytes}
use Rattle.worker_lane.proofs.HalfLemmas.{first_has_packet, second_has_packet}
use Rattle.worker_lane.proofs.NoteLemmas.{recorded_whole, recorded_in_halves, recorded_in_pieces, each_way}

-- the slice that is taken is the next piece
pub piece_is : (bytes piece : List ℕ) (given size : ℕ) → given < length bytes → size ≡ min (length bytes - given) 65536 → piece ≡ take ((given + size) - given) (drop given bytes) → piece ≡ take 65536 (drop given bytes)
piece_is bytes piece given size some is same = elim (cases_lt (length bytes - given) 65536) [
  | inl less ↦
      same
      ∙ take_all ((given + size) - given) (drop given bytes) (omega (arith, length-drop given bytes))
      ∙ sym (take_all 65536 (drop given bytes) (omega (arith, length-drop given bytes)))
  | inr more ↦ (
      let full : (given + size) - given ≡ 65536 = omega arith in
      same ∙ ap (λ (k : ℕ). take k (drop given bytes)) full
      )
]

pub piece_is_short : (piece bytes : List ℕ) → piece ≡ take 65536 bytes → length piece ≤ 65536
piece_is_short piece bytes is = omega (arith, ap length is, length-take 65536 bytes)

drop_least : (bytes : List ℕ) (n : ℕ) → drop (min n (length bytes)) bytes ≡ drop n bytes
drop_least bytes n = elim (cases_lt n (length bytes)) [
  | inl less ↦ (
      let same : min n (length bytes) ≡ n = omega arith in
      ap (λ (k : ℕ). drop k bytes) same
      )
  | inr more ↦ drop_all (min n (length bytes)) bytes (omega arith) ∙ sym (drop_all n bytes (omega arith))
]

next_pieces : (bytes : List ℕ) (given next : ℕ) → given < length bytes → next ≡ min (given + 65536) (length bytes) → pieces_of (drop given bytes) ≡ take 65536 (drop given bytes) ∷ pieces_of (drop next bytes)
next_pieces bytes given next some is =
    let rest : drop 65536 (drop given bytes) ≡ drop next bytes =
    drop-drop 65536 given bytes ∙ sym (drop_least bytes (given + 65536)) ∙ ap (λ (k : ℕ). drop k bytes) (sym is) in
    pieces_first (drop given bytes) (omega (arith, length-drop given bytes)) ∙ ap (λ (l : List ℕ). take 65536 (drop given bytes) ∷ pieces_of l) rest

-- a piece was appended
pub puts_piece : (lane : ℕ) (spelling after : Spelling) (piece old new : List ℕ) → HasPiecesLeft spelling → piece ≡ take 65536 (drop spelling.given spelling.bytes.items) → after ≡ record { bytes = spelling.bytes; given = min (spelling.given + 65536) (length spelling.bytes.items) } → HasPacket (stdout_under lane piece) → new ≡ old ++ canonical (stdout_under lane piece) → PutsOne (pieces_left lane spelling) old (pieces_left lane after) new
puts_piece lane spelling after piece old new some piece-is after-is packet grown = rw after-is (
  stdout_under lane piece,
  record {
    events_are = ap (map (stdout_under lane)) (next_pieces spelling.bytes.items spelling.given (min (spelling.given + 65536) (length spelling.bytes.items)) some refl)
        ∙ ap (λ (p : List ℕ). stdout_under lane p ∷ map (stdout_under lane) (pieces_of (drop (min (spelling.given + 65536) (length spelling.bytes.items)) spelling.bytes.items))) (sym piece-is);
    new_is = grown;
    has_packet = packet;
  },
)

-- none is left
none_left : (lane : ℕ) (spelling : Spelling) → length spelling.bytes.items ≤ spelling.given → pieces_left lane spelling ≡ []
none_left lane spelling all = ap (λ (l : List ℕ). map (stdout_under lane) (pieces_of l)) (drop_all spelling.given spelling.bytes.items all)

pub puts_last_piece : (lane : ℕ) (events : List Event) (spelling : Spelling) (left : Waiting) (old new : List ℕ) → PutsOne events old (pieces_left lane spelling) new → length spelling.bytes.items ≤ spelling.given → left ≡ waits.Nothing → PutsOne events old (waiting_events lane left) new
puts_last_piece lane events spelling left old new first all left-is = rw left-is (rw (none_left lane spelling all) at first)

-- ---- a packet was put, whole or in pieces

pub puts_whole : (lane : ℕ) (bytes : List ℕ) (e : Event) (left : List Event) (old new : List ℕ) → lane < 64 → AreBytes bytes → SpellsEvent bytes e → left ≡ [] → Fits (under lane e) → new ≡ old ++ canonical (under lane e) → PutsOne (recorded_event lane e) old left new
puts_whole lane bytes e left old new small are spelled none fits grown = (
  under lane e,
  record {
    events_are = recorded_whole lane e fits.size ∙ ap (λ (l : List Event). under lane e ∷ l) (sym none);
    new_is = grown;
    has_packet = record { is_event = is_event_under lane e small (spelled_is_event bytes e are spelled) fits; fits = fits };
  },
)

too_long : (lane : ℕ) (e : Event) → (Fits (under lane e) → ⊥) → 4194303 < canonical_size (under lane e)
too_long lane e long = elim (cases_lt 4194303 (canonical_size (under lane e))) [
  | inl large ↦ large
  | inr small ↦ absurd (long (record { size = small }))
]

pub puts_in_pieces : (lane : ℕ) (e : Event) (first spelling : Spelling) (left : Waiting) (old new : List ℕ) → (Fits (under lane e) → ⊥) → has_halves e ≡ false → first.bytes.items ≡ canonical e → first.given ≡ 0 → PutsOne (pieces_left lane first) old (pieces_left lane spelling) new → waiting_events lane left ≡ pieces_left lane spelling → PutsOne (recorded_event lane e) old (waiting_events lane left) new
puts_in_pieces lane e first spelling left old new long short bytes-is given-is puts left-is =
    let all : pieces_left lane first ≡ recorded_event lane e =
    (λ i. map (stdout_under lane) (pieces_of (drop (given-is i) (bytes-is i)))) ∙ sym (recorded_in_pieces lane e (too_long lane e long) short) in
    rw left-is (rw all at puts)

-- ---- the halves of a packet

-- where the bytes are a packet of the event, it is the one that is found
half_is : (lane : ℕ) (bytes : List ℕ) (e : Event) → AreBytes bytes → SpellsEvent bytes e → (decided : Decided ((event : Event) × SpellsEvent bytes event)) → half_found lane decided ≡ under lane (second_half e) ∷ []
half_is lane bytes e are spelled (inl found) = ap (λ (event : Event). under lane (second_half event) ∷ []) (one_event bytes found.0 e (fits_from_are bytes are) found.1 spelled)
half_is lane bytes e are spelled (inr never) = absurd (never (e, spelled))

pub half_waits : (lane : ℕ) (bytes : List ℕ) (e : Event) → AreBytes bytes → SpellsEvent bytes e → half_left lane bytes ≡ under lane (second_half e) ∷ []
half_waits lane bytes e are spelled = half_left_is lane bytes ∙ half_is lane bytes e are spelled (read_packet bytes)

module _ (packet : List ℕ) (e : Event) (are : AreBytes packet) (spelled : SpellsEvent packet e) where
  -- its shortest spelling is a packet of the same event
  kept_bytes : AreBytes (canonical e)
  kept_bytes = canonical_bytes packet e are spelled

  kept_spelled : SpellsEvent (canonical e) e
  kept_spelled = canonical_spells e (spelled_is_event packet e are spelled) (spelled_fits packet e spelled)

  pub halved : (bytes : List ℕ) → has_halves e ≡ true → bytes ≡ canonical e → IsHalved bytes
  halved bytes long is = rw is (record { are_bytes = kept_bytes; event = e; spelled = kept_spelled; long = long })

  pub puts_first_half : (lane : ℕ) (bytes : List ℕ) (left : Waiting) (old new : List ℕ) → lane < 64 → (Fits (under lane e) → ⊥) → has_halves e ≡ true → bytes ≡ canonical e → waiting_events lane left ≡ half_left lane bytes → new ≡ old ++ canonical (under lane (first_half e)) → PutsOne (recorded_event lane e) old (waiting_events lane left) new
  puts_first_half lane bytes left old new small long halves is left-is grown =
      let waits : waiting_events lane left ≡ under lane (second_half e) ∷ [] = left-is ∙ ap (half_left lane) is ∙ half_waits lane (canonical e) e kept_bytes kept_spelled in (
        under lane (first_half e),
        record {
          events_are = recorded_in_halves lane e (too_long lane e long) halves ∙ ap (λ (l : List Event). under lane (first_half e) ∷ l) (sym waits);
          new_is = grown;
          has_packet = first_has_packet lane packet e small are spelled halves;
        },
      )

-- each event that it spells may be cut in two
pub halves_of : (bytes : List ℕ) (e : Event) → IsHalved bytes → SpellsEvent bytes e → has_halves e ≡ true
halves_of bytes e is spelled = ap has_halves (one_event bytes e is.event (fits_from_are bytes is.are_bytes) spelled is.spelled) ∙ is.long

pub puts_second_half : (lane : ℕ) (bytes : List ℕ) (old new : List ℕ) → lane < 64 → (is : IsHalved bytes) → new ≡ old ++ canonical (under lane (second_half is.event)) → PutsOne (half_left lane bytes) old [] new
puts_second_half lane bytes old new small is grown = (
  under lane (second_half is.event),
  record {
    events_are = half_waits lane bytes is.event is.are_bytes is.spelled;
    new_is = grown;
    has_packet = second_has_packet lane bytes is.event small is.are_bytes is.spelled is.long;
  },
)

-- ---- the first packet of a note was put

pub puts_packet_note : (lane : ℕ) (bytes packet : List ℕ) (first : First) (size : ℕ) (left : List Event) (old new : List ℕ) → BeginsWithPacket bytes size → first ≡ found.Packet size → packet ≡ take size bytes → ((e : Event) → SpellsEvent packet e → PutsOne (recorded_event lane e) old left new) → PutsNote lane bytes first old left new
puts_packet_note lane bytes packet first size left old new begins first-is packet-is puts =
    let (e, spelled) = begins.packet in
    rw first-is (record { note = note.Event e; made = spelled; puts = puts e (rw packet-is spelled) })

pub puts_foreign_note : (lane : ℕ) (bytes run : List ℕ) (first : First) (size : ℕ) (behind : Option ℕ) (left : List Event) (old new : List ℕ) → first ≡ found.Foreign size behind → run ≡ take size bytes → left ≡ [] → HasPacket (stdout_under lane run) → new ≡ old ++ canonical (stdout_under lane run) → PutsNote lane bytes first old left new
puts_foreign_note lane bytes run first size behind left old new first-is run-is none packet grown = rw first-is (record {
  note = note.Foreign run;
  made = run-is;
  puts = (stdout_under lane run, record { events_are = ap (λ (l : List Event). stdout_under lane run ∷ l) (sym none); new_is = grown; has_packet = packet });
})

-- ---- something is waiting, unless it is nothing

pub spelling_some : (e : Event) → 0 < length (canonical e)
spelling_some e = omega (arith, length-append (canonical_body e) (to_be_bytes w32 (crc32 (canonical_body e))))

some_pieces : (lane : ℕ) (bytes : List ℕ) → 0 < length bytes → 0 < length (map (stdout_under lane) (pieces_of bytes))
some_pieces lane bytes some = omega (arith, length-map (pieces_of bytes) (stdout_under lane), ap length (pieces_first bytes some))

some_recorded : (lane : ℕ) (e : Event) → 0 < length (recorded_event lane e)
some_recorded lane e = each_way (λ (events : List Event). 0 < length events) lane e (λ fits. omega arith) (λ long. omega arith) (λ long short. some_pieces lane (canonical e) (spelling_some e))

pub waiting_some : (lane : ℕ) (waiting : Waiting) → HasWaitingEvent waiting → (waiting ≡ waits.Nothing → ⊥) → 0 < length (waiting_events lane waiting)
waiting_some lane waits.Nothing sound other = absurd (other refl)
waiting_some lane (waits.SecondHalf bytes) sound other = omega (arith, ap length (half_waits lane bytes.items sound.event sound.are_bytes sound.spelled))
waiting_some lane (waits.Pieces spelling) sound other = some_pieces lane (drop spelling.given spelling.bytes.items) (omega (arith, sound, length-drop spelling.given spelling.bytes.items))

pub not_nothing : (lane : ℕ) (waiting : Waiting) (test : Bool) → HasWaitingEvent waiting → IsTrue test ↔ (waiting ≡ waits.Nothing) → test ≡ false → waiting_events lane waiting ≡ [] → ⊥
not_nothing lane waiting test sound (to, from) is_false empty =
    let never : IsTrue test → ⊥ = search (rules, is_false) in
    let other : waiting ≡ waits.Nothing → ⊥ = λ is. never (from is) in
    omega (arith, waiting_some lane waiting sound other, ap length empty)

-- of each note an event is recorded
pub note_is_some : (lane : ℕ) (given : Note) → recorded_note lane given ≡ [] → ⊥
note_is_some lane (note.Event e) none = omega (arith, some_recorded lane e, ap length none)
note_is_some lane (note.Foreign bytes) none = omega (arith, ap length none)

-- where nothing is waiting, none is
pub nothing_waiting : (lane : ℕ) (waiting : Waiting) (test : Bool) → IsTrue test ↔ (waiting ≡ waits.Nothing) → test ≡ true → waiting_events lane waiting ≡ []
nothing_waiting lane waiting test (to, from) is_true =
    let is : waiting ≡ waits.Nothing = to (search (rules, is_true)) in
    ap (waiting_events lane) is

-- where some event is waiting, it is given
pub never_none : {E : Type 0} (Q : Type 0) (result : Result Bool E) (P : Type 0) → (P → ⊥) → IfOk result (λ given. given ≡ false → P) → IfOk result (λ given. given ≡ false → Q)
never_none Q (Ok given) P some otherwise = λ none. absurd (some (otherwise none))
never_none Q (Err fault) P some otherwise = tt
