-- A reader of lines of version 1 at work.
use Rattle.std.specs.Prelude.{◌≡◌, ℕ, ◌≤◌, Bool, List, ◌++◌, length, map}
use Rattle.std.specs.List.{concat}
use Rattle.v1_bridge.specs.declared.reader.V1Reader.{V1Reader}
use Rattle.v1_bridge.specs.Reading.{Input, front_piece, events_so_far}
use Rattle.v1_bridge.specs.Kept.{HasRead}
use Rattle.packet_codec.specs.Canonical.{packets_of}
use Rattle.filter_cli.specs.Pipe.{Adds}
use Rattle.filter_cli.specs.Lines.{IsSplit}
use Rattle.filter_cli.specs.Tapped.{AreFull, most_open, GivesPieces, IsLonger}
use Rattle.filter_cli.specs.V1.{inputs_of_lines}

-- The reader was given these lines and pieces, and this is all that they give before the end.
pub record HasHeardV1 (reader : V1Reader) (inputs : List Input) (shown : List ℕ) : Type 0 where
  pub taken : HasRead reader inputs
  pub made : shown ≡ packets_of (events_so_far inputs)

-- the reader was given these too, and what they give was appended
abbrev pub HearsV1 : V1Reader → V1Reader → List Input → List ℕ → List ℕ → Type 0
HearsV1 before after more old new = (inputs : List Input) (shown : List ℕ) → HasHeardV1 before inputs shown → Adds old new (λ text. HasHeardV1 after (inputs ++ more) (shown ++ text))

-- With these bytes fed, all lines that ended were taken. What follows them was taken in full pieces, but for what is held
-- of it, and this text was appended.
pub record HasFedV1 (reader : V1Reader) (held : List ℕ) (long : Bool) (fed shown : List ℕ) : Type 0 where
  pub lines : List (List ℕ)
  pub rest : List ℕ
  pub split : IsSplit fed lines rest
  pub pieces : List (List ℕ)
  pub joined : rest ≡ concat pieces ++ held
  pub full : AreFull pieces
  pub short : length held ≤ most_open long
  pub kind : GivesPieces long rest pieces
  pub heard : HasHeardV1 reader (inputs_of_lines lines ++ map front_piece pieces) shown

-- Bytes of a line were added to what was held of it. What they decide of it was taken in full pieces.
pub record IsAddedTo (reader after : V1Reader) (held : List ℕ) (long : Bool) (bytes later : List ℕ) (longer : Bool) (old new : List ℕ) : Type 0 where
  pub pieces : List (List ℕ)
  pub joined : held ++ bytes ≡ concat pieces ++ later
  pub full : AreFull pieces
  pub short : length later ≤ most_open longer
  pub kind : IsLonger long longer (length (held ++ bytes)) pieces
  pub hears : HearsV1 reader after (map front_piece pieces) old new
