-- The event that tells of the end of a lane.
use Rattle.std.proofs.Common.{◌≡◌, ℕ, zero, suc, ◌<◌, ◌≤◌, Bool, true, false, ◌&&◌, List, [], ◌∷◌, length, nat_lt, refl, arith}
use Rattle.std.specs.Prelude.{All, codes, ℤ, pos, negsuc}
use Rattle.std.proofs.lemmas.Bool.Decides.{nat_tests}
use Rattle.std.proofs.lemmas.List.{length-append}
use Rattle.std.proofs.lemmas.List.Elements.{All-nil, All-cons}
use Rattle.std.specs.Fmt.{decimal}
use Rattle.sub_number.specs.Texts.{IsShortText}
use Rattle.packet_codec.specs.declared.event.Event.{Event}
use Rattle.packet_codec.specs.Grammar.{AreBytes}
use Rattle.packet_codec.specs.Canonical.{canonical, canonical_text, canonical_fields, IsEvent, Fits}
use Rattle.packet_codec.proofs.WritingLemmas.{length_canonical_fields}
use Rattle.packet_codec.proofs.LaneLemmas.{is_event_under}
use Rattle.worker_lane.specs.declared.lot.Ending.TheVariants.{Exit}
use Rattle.worker_lane.specs.Endings.{returncode_text, returncode_event, returncode_under, ending_events, IsPacketOf}
use Rattle.worker_lane.proofs.EventLemmas.{IsPlainByte, plain_text, packet_size_most, length_counted, length_decimal}

-- ---- plain texts

unfoldable pub are_plain : List ℕ → Bool
are_plain [] = true
are_plain (byte ∷ bytes) = nat_lt 0 byte && (nat_lt byte 128 && are_plain bytes)

pub both : (a b : Bool) → (a && b) ≡ true → (a ≡ true) × (b ≡ true)
both true b h = (refl, h)
both false b h = absurd (grind (arith, h))

pub plain_by_test : (bytes : List ℕ) → are_plain bytes ≡ true → All IsPlainByte bytes
unfolding are_plain
plain_by_test [] h = All-nil IsPlainByte
plain_by_test (byte ∷ bytes) h =
    let first = both (nat_lt 0 byte) (nat_lt byte 128 && are_plain bytes) h in
    let second = both (nat_lt byte 128) (are_plain bytes) first.1 in
    All-cons IsPlainByte byte bytes (record { some = grind (arith, nat_tests, first.0); ascii = grind (arith, nat_tests, second.0) }) (plain_by_test bytes second.1)

id_is_text : IsShortText (codes "process-returncode")
unfolding are_plain
id_is_text = record { text = plain_text (codes "process-returncode") (plain_by_test (codes "process-returncode") refl); short = omega arith }

pub mime_is_text : IsShortText (codes "text/plain;charset=utf8")
unfolding are_plain
mime_is_text = record { text = plain_text (codes "text/plain;charset=utf8") (plain_by_test (codes "text/plain;charset=utf8") refl); short = omega arith }

pub name_is_text : IsShortText (codes "traceback")
unfolding are_plain
name_is_text = record { text = plain_text (codes "traceback") (plain_by_test (codes "traceback") refl); short = omega arith }

-- ---- the event

returncode_fits : (lane : ℕ) (text : List ℕ) → lane < 64 → length text ≤ 60 → Fits (returncode_under lane text)
returncode_fits lane text small short = record {
  size = omega (
    arith,
    packet_size_most (length (canonical_fields (returncode_under lane text))),
    length_canonical_fields (returncode_under lane text),
    length-append (canonical_text (codes "traceback")) (canonical_text text),
    length_counted (codes "process-returncode"),
    length_counted (codes "text/plain;charset=utf8"),
    length_counted (codes "traceback"),
    length_counted text,
    length_counted (decimal lane),
    length_decimal lane small,
  );
}

returncode_is_event : (lane : ℕ) (text : List ℕ) → lane < 64 → AreBytes text → length text ≤ 60 → IsEvent (returncode_under lane text)
returncode_is_event lane text small are short = is_event_under lane (returncode_event text) small (record { seconds = tt; id = id_is_text; tags = tt; mime = mime_is_text; file = (name_is_text, are); route = tt }) (returncode_fits lane text small short)

pub ending_fits : (event : Event) (lane : ℕ) (text : List ℕ) → event ≡ returncode_under lane text → lane < 64 → length text ≤ 60 → Fits event
ending_fits event lane text is small short = rw is (returncode_fits lane text small short)

pub ending_is_event : (event : Event) (lane : ℕ) (text : List ℕ) → event ≡ returncode_under lane text → lane < 64 → AreBytes text → length text ≤ 60 → IsEvent event
ending_is_event event lane text is small are short = rw is (returncode_is_event lane text small are short)

pub ending_packet : (event : Event) (lane : ℕ) (text packet : List ℕ) → event ≡ returncode_under lane text → IsEvent event → Fits event → packet ≡ canonical event → IsPacketOf lane packet
ending_packet event lane text packet is is_event fits made = record { event = returncode_event text; packet_is = rw is at made; is_event = rw is at is_event; fits = rw is at fits }

-- ---- endings

pub exit_event : (lane : ℕ) (status : ℤ) → (status ≡ pos 0 → ⊥) → ending_events lane (Exit status) ≡ returncode_under lane (returncode_text status) ∷ []
exit_event lane (pos zero) other = absurd (other refl)
exit_event lane (pos (suc n)) other = refl
exit_event lane (negsuc n) other = refl
