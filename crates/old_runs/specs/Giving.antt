-- Events that are handed on, each as its packet in shortest spelling.
use Rattle.std.specs.Prelude.{◌≡◌, ℕ, List, ◌++◌}
use Rattle.packet_codec.specs.declared.event.Event.{Event}
use Rattle.packet_codec.specs.Packets.{ArePacketsOf}

-- the packets of some events were appended, and of these events this is so
pub record AppendsEvents (old new : List ℕ) (P : List Event → Type 0) : Type 0 where
  pub more : List Event
  pub packets : List ℕ
  pub are : ArePacketsOf more packets
  pub grown : new ≡ old ++ packets
  pub holds : P more
