-- The shortest spelling of an event, and its size.
use Rattle.std.specs.Prelude.{ℕ, ◌+◌, ◌<◌, ◌≤◌, ◌^◌, Option, Some, None, IfSome, List, [], ◌∷◌, ◌++◌, length, All, nat_lt, if◌then◌else◌}
use Rattle.std.specs.List.{flat_map}
use Rattle.std.specs.Int.{w32, to_be_bytes}
use Rattle.sub_number.specs.Numbers.{shortest_number}
use Rattle.sub_number.specs.Texts.{IsShortText}
use Rattle.sub_number.specs.Checksum.{crc32}
use Rattle.packet_codec.specs.declared.stamp.Stamp.{Stamp}
use Rattle.packet_codec.specs.declared.event.FilePart.{FilePart}
use Rattle.packet_codec.specs.declared.event.Event.{Event}
use Rattle.packet_codec.specs.Flags.{first_flags, second_flags}
use Rattle.packet_codec.specs.Packet.{signature, SpellsEvent}

-- the spelling of a value, nothing where there is none
abbrev pub canonical_optional : {A : Type 0} → (A → List ℕ) → Option A → List ℕ
canonical_optional spelling None = []
canonical_optional spelling (Some value) = spelling value

-- a text behind its length
abbrev pub canonical_text : List ℕ → List ℕ
canonical_text text = shortest_number (length text) ++ text

-- four bytes of seconds, and the nanoseconds behind them
abbrev pub canonical_stamp : Stamp → List ℕ
canonical_stamp stamp = to_be_bytes w32 stamp.seconds ++ shortest_number stamp.nanos

-- the tags behind their number
abbrev pub canonical_tags : List (List ℕ) → List ℕ
canonical_tags tags = shortest_number (length tags) ++ flat_map canonical_text tags

-- a file's name, and its bytes behind their length
abbrev pub canonical_file : FilePart → List ℕ
canonical_file file = canonical_text file.name ++ shortest_number (length file.bytes) ++ file.bytes

-- each field with shortest numbers
unfoldable pub canonical_fields : Event → List ℕ
canonical_fields e = canonical_optional canonical_stamp e.stamp
    ++ canonical_optional canonical_text e.id
    ++ canonical_optional canonical_tags e.tags
    ++ canonical_optional canonical_text e.mime
    ++ canonical_optional canonical_file e.file
    ++ canonical_optional canonical_text e.route

-- The size of a packet whose fields have n bytes: of the signature and the flags, the length, the fields and the
-- checksum. The length has the least of one to three bytes that has room for the whole size, or three, where none has.
abbrev pub packet_size : ℕ → ℕ
packet_size n = if nat_lt (3 + 1 + n + 4) (2 ^ 6) then 3 + 1 + n + 4 else (if nat_lt (3 + 2 + n + 4) (2 ^ 14) then 3 + 2 + n + 4 else 3 + 3 + n + 4)

-- how many bytes the event's packet has
abbrev pub canonical_size : Event → ℕ
canonical_size e = packet_size (length (canonical_fields e))

-- the greatest size that three bytes spell
abbrev pub largest_packet : ℕ
largest_packet = 4194303

-- the event has a spelling
pub record Fits (e : Event) : Type 0 where
  pub size : canonical_size e ≤ largest_packet

-- all but the checksum
unfoldable pub canonical_body : Event → List ℕ
canonical_body e = signature ∷ first_flags e ∷ second_flags e ∷ shortest_number (canonical_size e) ++ canonical_fields e

-- the spelling with shortest numbers, which is a packet where the event fits
abbrev pub canonical : Event → List ℕ
canonical e = canonical_body e ++ to_be_bytes w32 (crc32 (canonical_body e))

-- What the types of an event's parts keep: its texts are texts, its seconds have four bytes, and its file has bytes.
pub record IsEvent (e : Event) : Type 0 where
  pub seconds : IfSome e.stamp (λ stamp. stamp.seconds < 2 ^ 32)
  pub id : IfSome e.id IsShortText
  pub tags : IfSome e.tags (All IsShortText)
  pub mime : IfSome e.mime IsShortText
  pub file : IfSome e.file (λ file. IsShortText file.name × All (λ byte. byte < 256) file.bytes)
  pub route : IfSome e.route IsShortText

-- the bytes spell the event, and no other spelling of it is shorter
pub record IsShortestSpelling (bytes : List ℕ) (e : Event) : Type 0 where
  pub spells : SpellsEvent bytes e
  pub least : (others : List ℕ) → SpellsEvent others e → length bytes ≤ length others

-- the shortest packets of the events, one after another
abbrev pub packets_of : List Event → List ℕ
packets_of events = flat_map canonical events
