-- Bytes that are packets, one after another, each in its shortest spelling.
use Rattle.std.specs.Prelude.{◌≡◌, ℕ, List, All}
use Rattle.std.specs.List.{flat_map}
use Rattle.packet_codec.specs.Canonical.{IsEvent, Fits, canonical}
use Rattle.packet_codec.specs.declared.event.Event.{Event}

-- the bytes are the packets of these events
pub record ArePacketsOf (events : List Event) (bytes : List ℕ) : Type 0 where
  pub are_events : All IsEvent events
  pub fit : All Fits events
  pub packets : bytes ≡ flat_map canonical events

-- the bytes are the packets of some events
abbrev pub ArePackets : (bytes : List ℕ) → Type 0
ArePackets bytes = (events : List Event) × ArePacketsOf events bytes
