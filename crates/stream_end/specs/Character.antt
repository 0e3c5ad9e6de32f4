-- The character of UTF-8 that foreign bytes leave open (docs/FORMATS.md, "A stream that ends inside a packet").
use Rattle.std.specs.Prelude.{ℕ, ◌-◌, List, [], ◌∷◌, nat_lt, if◌then◌else◌, fold}
use Rattle.stream_reader.specs.declared.note.Note.{Note}
use Rattle.stream_reader.specs.declared.note.Note.TheVariants as note
use Rattle.stream_reader.specs.Cut.{Piece, packet, foreign}

-- How many bytes are missing to a character behind a byte, where so many were in front of it. A byte that begins a
-- character says how many are to follow, one that goes on with it is one of those, and no other byte leaves one open.
unfoldable pub missing_after_byte : (missing : ℕ) → (byte : ℕ) → ℕ
missing_after_byte missing byte =
    if nat_lt byte 0x80 then 0
    else if nat_lt byte 0xC0 then missing - 1
    else if nat_lt byte 0xC2 then 0
    else if nat_lt byte 0xE0 then 1
    else if nat_lt byte 0xF0 then 2
    else if nat_lt byte 0xF5 then 3
    else 0

-- behind foreign bytes, one after another
abbrev pub missing_after_bytes : (missing : ℕ) → (bytes : List ℕ) → ℕ
missing_after_bytes missing bytes = fold missing_after_byte missing bytes

-- behind a note: no packet leaves a character open
abbrev pub missing_after_note : (missing : ℕ) → Note → ℕ
missing_after_note missing (note.Event event) = 0
missing_after_note missing (note.Foreign run) = missing_after_bytes missing run

-- behind the pieces of a stream
abbrev pub missing_after_pieces : (missing : ℕ) → List Piece → ℕ
missing_after_pieces missing [] = missing
missing_after_pieces missing (packet event ∷ pieces) = missing_after_pieces 0 pieces
missing_after_pieces missing (foreign byte ∷ pieces) = missing_after_pieces (missing_after_byte missing byte) pieces
