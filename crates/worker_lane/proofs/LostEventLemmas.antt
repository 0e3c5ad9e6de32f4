-- The event of a test that was lost.
use Rattle.std.proofs.Common.{◌≡◌, ℕ, zero, suc, ◌<◌, ◌≤◌, List, [], ◌∷◌, length, refl, arith}
use Rattle.std.specs.Prelude.{All, nat_le, pos, negsuc}
use Rattle.std.proofs.lemmas.List.Elements.{All-nil, All-cons, All-append, All-head, All-tail, All-filter}
use Rattle.std.specs.Fmt.{decimal}
use Rattle.sub_number.specs.Texts.{IsShortText}
use Rattle.packet_codec.specs.declared.event.Event.{Event}
use Rattle.packet_codec.specs.Canonical.{canonical, canonical_fields, IsEvent, Fits}
use Rattle.packet_codec.specs.Routing.{under}
use Rattle.packet_codec.proofs.WritingLemmas.{length_canonical_fields}
use Rattle.packet_codec.proofs.LaneLemmas.{is_event_under}
use Rattle.worker_lane.specs.Lost.{longest_id, named_ids, is_unheard, lost_ids, lost_event, lost_under, lost_events, IsLostPacket}
use Rattle.worker_lane.specs.Sought.{AreShort}
use Rattle.worker_lane.specs.declared.lot.Ending.{Ending}
use Rattle.worker_lane.specs.declared.lot.Ending.TheVariants.{Exit, Fault, NoMemory}
use Rattle.worker_lane.proofs.EventLemmas.{packet_size_most, length_counted, length_decimal}
use Rattle.worker_lane.proofs.NoteLemmas.{AreWritable}
use Rattle.worker_lane.proofs.SoughtLemmas.{are_short}

lost_fits : (lane : ℕ) (id : List ℕ) → lane < 64 → length id ≤ 65536 → Fits (under lane (lost_event id))
lost_fits lane id small short = record {
  size = omega (
    arith,
    packet_size_most (length (canonical_fields (under lane (lost_event id)))),
    length_canonical_fields (under lane (lost_event id)),
    length_counted id,
    length_counted (decimal lane),
    length_decimal lane small,
  );
}

pub event_fits : (event : Event) (lane : ℕ) (id : List ℕ) → event ≡ under lane (lost_event id) → lane < 64 → length id ≤ 65536 → Fits event
event_fits event lane id is small short = rw is (lost_fits lane id small short)

pub event_is_event : (event : Event) (lane : ℕ) (id : List ℕ) → event ≡ under lane (lost_event id) → lane < 64 → IsShortText id → length id ≤ 65536 → IsEvent event
event_is_event event lane id is small text short = rw is (is_event_under lane (lost_event id) small (record { seconds = tt; id = text; tags = tt; mime = tt; file = tt; route = tt }) (lost_fits lane id small short))

pub lost_packet : (event : Event) (lane : ℕ) (id packet : List ℕ) → event ≡ under lane (lost_event id) → IsEvent event → Fits event → packet ≡ canonical event → IsLostPacket lane id packet
lost_packet event lane id packet is is_event fits made = record {
  packet_is = rw is at made;
  under = record { event = lost_event id; packet_is = rw is at made; is_event = rw is at is_event; fits = rw is at fits };
}

-- ---- each event of a test that was lost has a packet

one_lost : (lane : ℕ) (id : List ℕ) → lane < 64 → IsShortText id → length id ≤ 65536 → AreWritable (under lane (lost_event id) ∷ [])
one_lost lane id small text short = record {
  are_events = All-cons IsEvent (under lane (lost_event id)) [] (event_is_event (under lane (lost_event id)) lane id refl small text short) (All-nil IsEvent);
  fit = All-cons Fits (under lane (lost_event id)) [] (lost_fits lane id small short) (All-nil Fits);
}

none_lost : AreWritable []
none_lost = record { are_events = All-nil IsEvent; fit = All-nil Fits }

id_has_packets : (lane : ℕ) (how : Ending) (id : List ℕ) → lane < 64 → IsShortText id → length id ≤ 65536 → AreWritable (lost_under lane how id)
id_has_packets lane (Exit (pos zero)) id small text short = none_lost
id_has_packets lane (Exit (pos (suc n))) id small text short = one_lost lane id small text short
id_has_packets lane (Exit (negsuc n)) id small text short = one_lost lane id small text short
id_has_packets lane Fault id small text short = one_lost lane id small text short
id_has_packets lane NoMemory id small text short = none_lost

ids_have_packets : (lane : ℕ) (how : Ending) (ids : List (List ℕ)) → lane < 64 → All IsShortText ids → AreShort ids → AreWritable (lost_events lane how ids)
ids_have_packets lane how [] small texts short = none_lost
ids_have_packets lane how (id ∷ ids) small texts short =
    let first = id_has_packets lane how id small (All-head IsShortText id ids texts) (All-head (λ id. length id ≤ longest_id) id ids short) in
    let others = ids_have_packets lane how ids small (All-tail IsShortText id ids texts) (All-tail (λ id. length id ≤ longest_id) id ids short) in
    record {
      are_events = All-append IsEvent (lost_under lane how id) (lost_events lane how ids) first.are_events others.are_events;
      fit = All-append Fits (lost_under lane how id) (lost_events lane how ids) first.fit others.fit;
    }

-- those of the ids of a job that can be named
pub lost_have_packets : (lane : ℕ) (how : Ending) (ids : List (List ℕ)) (events : List Event) → lane < 64 → All IsShortText ids → AreWritable (lost_events lane how (lost_ids (named_ids ids) events))
lost_have_packets lane how ids events small texts =
    ids_have_packets lane how (lost_ids (named_ids ids) events) small
    (All-filter (is_unheard events) IsShortText (named_ids ids) (All-filter (λ id. nat_le (length id) longest_id) IsShortText ids texts))
    (All-filter (is_unheard events) (λ id. length id ≤ longest_id) (named_ids ids) (are_short ids))
