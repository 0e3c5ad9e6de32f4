-- The event that tells that a stream ends inside a packet.
use Rattle.std.proofs.Common.{◌≡◌, ℕ, ◌<◌, Bool, true, false, ◌&&◌, nat_lt, List, [], ◌∷◌, length, refl, arith}
use Rattle.std.specs.Prelude.{codes}
use Rattle.std.proofs.lemmas.Bool.Decides.{nat_tests}
use Rattle.std.proofs.lemmas.List.{length-append}
use Rattle.std.proofs.lemmas.List.Elements.{All-nil, All-cons}
use Rattle.std.specs.Fmt.{decimal}
use Rattle.sub_number.specs.Texts.{IsShortText}
use Rattle.packet_codec.specs.declared.event.Event.{Event}
use Rattle.packet_codec.specs.Grammar.{AreBytes}
use Rattle.packet_codec.specs.Canonical.{canonical_text, canonical_fields, IsEvent, Fits}
use Rattle.packet_codec.proofs.WritingLemmas.{length_canonical_fields}
use Rattle.packet_codec.proofs.LaneLemmas.{is_event_under}
use Rattle.worker_lane.specs.Inside.{inside_text, inside_event, inside_under, inside_events}
use Rattle.worker_lane.specs.Recorded.{HasPacket}
use Rattle.worker_lane.proofs.EventLemmas.{plain_text, packet_size_most, length_counted, length_decimal}
use Rattle.worker_lane.proofs.EndingLemmas.{are_plain, both, plain_by_test, mime_is_text, name_is_text}
use Rattle.worker_lane.proofs.NoteLemmas.{AreWritable}

id_is_text : IsShortText (codes "subunit.parser")
unfolding are_plain
id_is_text = record { text = plain_text (codes "subunit.parser") (plain_by_test (codes "subunit.parser") refl); short = omega arith }

pub inside_fits : (lane : ℕ) → lane < 64 → Fits (inside_under lane)
inside_fits lane small = record {
  size = omega (
    arith,
    packet_size_most (length (canonical_fields (inside_under lane))),
    length_canonical_fields (inside_under lane),
    length-append (canonical_text (codes "traceback")) (canonical_text inside_text),
    length_counted (codes "subunit.parser"),
    length_counted (codes "text/plain;charset=utf8"),
    length_counted (codes "traceback"),
    length_counted inside_text,
    length_counted (decimal lane),
    length_decimal lane small,
  );
}

-- bytes, by a test of each
below : List ℕ → Bool
below [] = true
below (byte ∷ bytes) = nat_lt byte 256 && below bytes

are_by_test : (bytes : List ℕ) → below bytes ≡ true → AreBytes bytes
unfolding below
are_by_test [] h = All-nil (λ byte. byte < 256)
are_by_test (byte ∷ bytes) h =
    let first = both (nat_lt byte 256) (below bytes) h in
    All-cons (λ byte. byte < 256) byte bytes (grind (arith, nat_tests, first.0)) (are_by_test bytes first.1)

text_is_bytes : AreBytes inside_text
unfolding below
text_is_bytes = are_by_test inside_text refl

pub inside_is_event : (lane : ℕ) → lane < 64 → IsEvent (inside_under lane)
inside_is_event lane small = is_event_under lane inside_event small (record { seconds = tt; id = id_is_text; tags = tt; mime = mime_is_text; file = (name_is_text, text_is_bytes); route = tt }) (inside_fits lane small)

pub event_fits : (event : Event) (lane : ℕ) → event ≡ inside_under lane → lane < 64 → Fits event
event_fits event lane is small = rw is (inside_fits lane small)

pub inside_packet : (lane : ℕ) → lane < 64 → HasPacket (inside_under lane)
inside_packet lane small = record { is_event = inside_is_event lane small; fits = inside_fits lane small }

pub inside_has_packets : (lane : ℕ) (inside : Bool) → lane < 64 → AreWritable (inside_events lane inside)
inside_has_packets lane true small = record {
  are_events = All-cons IsEvent (inside_under lane) [] (inside_is_event lane small) (All-nil IsEvent);
  fit = All-cons Fits (inside_under lane) [] (inside_fits lane small) (All-nil Fits);
}
inside_has_packets lane false small = record { are_events = All-nil IsEvent; fit = All-nil Fits }
