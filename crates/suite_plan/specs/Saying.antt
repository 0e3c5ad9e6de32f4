-- What is told of the output of a program that failed (docs/FORMATS.md, "What a failed job says").
use Rattle.std.specs.Prelude.{◌≡◌, ℕ, ◌-◌, ◌||◌, Bool, Option, None, Some, List, [], ◌++◌, length, drop, nat_le, if◌then◌else◌, codes}
use Rattle.std.specs.List.{fold}
use Rattle.std.specs.Str.{bytes_eq}
use Rattle.packet_codec.specs.Grammar.{AreBytes}
use Rattle.packet_codec.specs.declared.event.Event.{Event}
use Rattle.packet_codec.specs.declared.event.FilePart.{FilePart}
use Rattle.stream_reader.specs.Notes.{HasEvents}
use Rattle.outcome_fold.specs.Lines.{newline, whole_lines}

-- ---- how much is told

-- the most bytes of a text that are told
abbrev pub most_said : ℕ
most_said = 65536

-- of a text its last 65,536 bytes, behind a line of three dots where some were left out
abbrev pub last_said : List ℕ → List ℕ
last_said text = if nat_le (length text) most_said then text else codes "..." ++ newline ++ drop (length text - most_said) text

-- what is told of a text: of its whole lines the last bytes
abbrev pub told_of : List ℕ → List ℕ
told_of text = last_said (whole_lines text)

-- ---- the text of files

-- the name of the file that has no line in front
abbrev pub plain_name : List ℕ
plain_name = codes "stdout"

-- the line in front of a file of this name
abbrev pub name_line : List ℕ → List ℕ
name_line name = codes "--- " ++ name ++ codes " ---" ++ newline

-- A file of this name follows one of that name without a line in front: it is `stdout`, or has the same name.
abbrev pub follows_on : (before name : List ℕ) → Bool
follows_on before name = bytes_eq name plain_name || bytes_eq name before

-- the text of some pieces of files, and the name of the last one's file
pub record ListingText : Type 0 where
  pub text : List ℕ
  pub name : List ℕ

-- no piece has come; a first one is as one behind a piece of `stdout`
abbrev pub nothing_said : ListingText
nothing_said = record { text = []; name = plain_name }

-- one piece more: its bytes, and where it does not follow on, the line with its name in front, which begins a line
abbrev pub with_file : ListingText → FilePart → ListingText
with_file said file = record {
  text = (if follows_on said.name file.name then said.text else whole_lines said.text ++ name_line file.name) ++ file.bytes;
  name = file.name;
}

-- one piece more, where there is one
abbrev pub with_some : ListingText → Option FilePart → ListingText
with_some said None = said
with_some said (Some file) = with_file said file

-- one event more
abbrev pub with_event : ListingText → Event → ListingText
with_event said event = with_some said event.file

-- the text of the events' files, one behind another
abbrev pub said_by : List Event → ListingText
said_by events = fold with_event nothing_said events

-- ---- what is told of an output

-- what is told of a listing that has these events
abbrev pub listing_text : List Event → List ℕ
listing_text events = told_of (said_by events).text

-- an output of these bytes is a stream of which this text is told
pub record TellsListing (text bytes : List ℕ) : Type 0 where
  pub are_bytes : AreBytes bytes
  pub events : List Event
  pub told : HasEvents bytes events
  pub text_is : text ≡ listing_text events
