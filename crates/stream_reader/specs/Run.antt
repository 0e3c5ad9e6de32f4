-- The foreign bytes at the front of what is held, as far as a reader has looked.
use Rattle.std.specs.Prelude.{◌≡◌, ◌⊎◌, ℕ, ◌<◌, ◌≤◌, Bool, true, false, List, length, drop}
use Rattle.packet_codec.specs.Header.{BeginsWithPacket, NeedsMore}
use Rattle.packet_codec.specs.declared.front.Front.{Front}
use Rattle.packet_codec.specs.declared.front.Front.TheVariants.{Packet, More, No}
use Rattle.stream_reader.specs.Notes.{longest_foreign}

-- no packet stands at the front, and none will, unless the stream has ended
pub record IsForeign (ended : Bool) (bytes : List ℕ) : Type 0 where
  pub none : (size : ℕ) → BeginsWithPacket bytes size → ⊥
  pub never : ended ≡ false → NeedsMore bytes → ⊥

-- so it is at each of the first `count` places
abbrev pub AreForeign : Bool → List ℕ → ℕ → Type 0
AreForeign ended bytes count = (i : ℕ) → i < count → IsForeign ended (drop i bytes)

-- why a run of foreign bytes is no longer than this
abbrev pub StopsBy : Bool → List ℕ → ℕ → Front → Type 0
StopsBy ended bytes count (Packet size) = BeginsWithPacket (drop count bytes) size
StopsBy ended bytes count More = (ended ≡ false) × (count < longest_foreign) × NeedsMore (drop count bytes)
StopsBy ended bytes count No = (count ≡ longest_foreign) ⊎ ((ended ≡ true) × (count ≡ length bytes))

-- the foreign bytes at the front, of which one note can be made, and what stands behind them
pub record IsRun (ended : Bool) (bytes : List ℕ) (count : ℕ) (front : Front) : Type 0 where
  pub in_range : count ≤ length bytes
  pub short : count ≤ longest_foreign
  pub are_foreign : AreForeign ended bytes count
  pub stops : StopsBy ended bytes count front

-- what the front is, where at the end of a stream nothing may become a packet
abbrev pub FrontIs : Bool → List ℕ → Front → Type 0
FrontIs ended bytes (Packet size) = BeginsWithPacket bytes size
FrontIs ended bytes More = (ended ≡ false) × NeedsMore bytes
FrontIs ended bytes No = IsForeign ended bytes
