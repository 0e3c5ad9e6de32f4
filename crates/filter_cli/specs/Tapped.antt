-- A reader of lines of the Test Anything Protocol at work.
use Rattle.std.specs.Prelude.{◌≡◌, ℕ, ◌<◌, ◌≤◌, Bool, true, false, ⊤, List, [], ◌∷◌, ◌++◌, length, map}
use Rattle.std.specs.List.{concat}
use Rattle.stream_reader.specs.Notes.{stdout_event}
use Rattle.tap_bridge.specs.declared.reader.TapReader.{TapReader}
use Rattle.tap_bridge.specs.Events.{longest_tap_line, tap_events_so_far}
use Rattle.tap_bridge.specs.Kept.{HasReadLines}
use Rattle.packet_codec.specs.Canonical.{packets_of}
use Rattle.filter_cli.specs.Lines.{IsSplit}

-- each of the pieces has as many bytes as a piece may have
abbrev pub AreFull : List (List ℕ) → Type 0
AreFull [] = ⊤
AreFull (piece ∷ pieces) = (length piece ≡ longest_tap_line) × AreFull pieces

-- how much is held of a line whose end is not there yet, where it gave pieces or none
abbrev pub most_open : Bool → ℕ
most_open false = longest_tap_line
most_open true = 65535

-- a line gives pieces where it is too long for a line of the protocol
abbrev pub GivesPieces : Bool → List ℕ → List (List ℕ) → Type 0
GivesPieces false rest pieces = pieces ≡ []
GivesPieces true rest pieces = longest_tap_line < length rest

-- With these bytes fed, all lines that ended were taken. What follows them was given in full pieces, but for what is held
-- of it, and this text was appended.
pub record HasTapped (reader : TapReader) (held : List ℕ) (long : Bool) (fed shown : List ℕ) : Type 0 where
  pub lines : List (List ℕ)
  pub rest : List ℕ
  pub taken : HasReadLines reader lines
  pub split : IsSplit fed lines rest
  pub pieces : List (List ℕ)
  pub joined : rest ≡ concat pieces ++ held
  pub full : AreFull pieces
  pub short : length held ≤ most_open long
  pub kind : GivesPieces long rest pieces
  pub made : shown ≡ packets_of (tap_events_so_far lines ++ map stdout_event pieces)

-- whether more bytes make a line too long that was not, or was
abbrev pub IsLonger : Bool → Bool → ℕ → List (List ℕ) → Type 0
IsLonger false false size pieces = pieces ≡ []
IsLonger true false size pieces = ⊥
IsLonger false true size pieces = longest_tap_line < size
IsLonger true true size pieces = ⊤

-- Bytes of a line were added to what was held of it. What they decide of it was given in full pieces.
pub record IsAdded (held : List ℕ) (long : Bool) (bytes later : List ℕ) (longer : Bool) (old new : List ℕ) : Type 0 where
  pub pieces : List (List ℕ)
  pub joined : held ++ bytes ≡ concat pieces ++ later
  pub full : AreFull pieces
  pub short : length later ≤ most_open longer
  pub kind : IsLonger long longer (length (held ++ bytes)) pieces
  pub grown : new ≡ old ++ packets_of (map stdout_event pieces)

-- The reader was given these lines, and this is all that they give before the end.
pub record HasTaken (reader : TapReader) (lines : List (List ℕ)) (shown : List ℕ) : Type 0 where
  pub taken : HasReadLines reader lines
  pub made : shown ≡ packets_of (tap_events_so_far lines)
