-- An event in two halves, where its file is cut in two (docs/FORMATS.md, "What is recorded of a stream").
use Rattle.std.specs.Prelude.{ℕ, ◌/◌, Bool, false, Option, Some, None, List, length, take, drop, option_map, nat_le}
use Rattle.packet_codec.specs.declared.status.Status.TheVariants.{Unset}
use Rattle.packet_codec.specs.declared.event.FilePart.{FilePart}
use Rattle.packet_codec.specs.declared.event.Event.{Event}

-- a file of fewer bytes is not cut in two
abbrev pub least_halved : ℕ
least_halved = 8

-- the first half of the bytes, which is the shorter one where their number is odd
abbrev pub half_of : List ℕ → List ℕ
half_of bytes = take (length bytes / 2) bytes

-- the other bytes
abbrev pub other_half_of : List ℕ → List ℕ
other_half_of bytes = drop (length bytes / 2) bytes

-- the file with these of its bytes
abbrev pub with_part : (List ℕ → List ℕ) → FilePart → FilePart
with_part half file = record { name = file.name; bytes = half file.bytes }

-- there is a file, and it may be cut in two
abbrev pub is_long_file : Option FilePart → Bool
is_long_file None = false
is_long_file (Some file) = nat_le least_halved (length file.bytes)

-- the event may be cut in two
abbrev pub has_halves : Event → Bool
has_halves e = is_long_file e.file

-- The first half of the event has the first half of its file. It says nothing of how the test ended, has no tags, and is
-- not the file's end.
abbrev pub first_half : Event → Event
first_half e = record e {
  tags = None;
  status = Unset;
  file = option_map (with_part half_of) e.file;
  eof = false;
}

-- The second half is the event with the other bytes of its file.
abbrev pub second_half : Event → Event
second_half e = record e { file = option_map (with_part other_half_of) e.file }
