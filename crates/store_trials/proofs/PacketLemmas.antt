-- Packets of events, one behind another.
use Rattle.std.proofs.Common.{◌≡◌, ℕ, List, [], ◌∷◌, ◌++◌, refl, sym, ◌∙◌}
use Rattle.std.proofs.lemmas.List.{append-nil}
use Rattle.std.proofs.lemmas.List.Concat.{flat_map-append}
use Rattle.std.proofs.lemmas.List.Elements.{All-nil, All-cons, All-append}
use Rattle.packet_codec.specs.declared.event.Event.{Event}
use Rattle.packet_codec.specs.Canonical.{IsEvent, Fits, canonical}
use Rattle.packet_codec.specs.Packets.{ArePackets, ArePacketsOf}

pub no_packets : ArePackets []
no_packets = ([], record { are_events = All-nil IsEvent; fit = All-nil Fits; packets = refl })

-- one packet more
pub packets_more : (bytes whole : List ℕ) (event : Event) → IsEvent event → Fits event → whole ≡ bytes ++ canonical event → ArePackets bytes → ArePackets whole
packets_more bytes whole event is fits parts (events, are) = (
  events ++ event ∷ [],
  record {
    are_events = All-append IsEvent events (event ∷ []) are.are_events (All-cons IsEvent event [] is (All-nil IsEvent));
    fit = All-append Fits events (event ∷ []) are.fit (All-cons Fits event [] fits (All-nil Fits));
    packets = parts ∙ (λ i. are.packets i ++ sym (append-nil (canonical event)) i) ∙ sym (flat_map-append canonical events (event ∷ []));
  },
)
