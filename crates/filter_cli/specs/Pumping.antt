-- What a pump does, whatever the filter. `sees`, `ends` and `inside` are the filter's: the text that first bytes decide, the
-- text and status of a whole stream, and whether that ends inside a packet.
use Rattle.std.specs.Prelude.{◌≡◌, ◌⊎◌, ℕ, ◌<◌, ◌≤◌, Bool, false, Option, IfSome, List, ◌++◌, length, take, Result, Ok, Err}
use Rattle.std.specs.Io.KnownBytes.{IsAtEnd}
use Rattle.packet_codec.specs.Grammar.{AreBytes}
use Rattle.edge_io.specs.Bytes.{AppendsPrefix}
use Rattle.edge_io.specs.Causes.{Rose}
use Rattle.edge_io.specs.Limits.{most_bytes, most_at_once}
use Rattle.filter_cli.specs.Pipe.{Pipe, Moves, NoFault}
use Rattle.filter_cli.specs.declared.filter.StreamEnd.{StreamEnd}
use Rattle.filter_cli.specs.declared.pump_loop.PumpFault.{PumpFault}
use Rattle.filter_cli.specs.declared.pump_loop.PumpFault.TheVariants.{Input, TooLong, Output, NoMemory}

-- the whole input was read, and its text was written
pub record PumpsAll (ends : List ℕ → List ℕ → ℕ → Type 0) (before after : Pipe) (status : ℕ) : Type 0 where
  pub bytes : List ℕ
  pub text : List ℕ
  pub moved : Moves bytes text before after
  pub at_end : IsAtEnd after.input.told
  pub size : length bytes ≤ most_bytes
  pub whole : ends bytes text status
  pub faults : NoFault before after

-- of an input that is not read as packets: it ends inside none
abbrev pub in_no_packet : List ℕ → Bool
in_no_packet bytes = false

-- the same, and it is told at the end whether the input ends inside a packet
pub record PumpsToEnd (inside : List ℕ → Bool) (ends : List ℕ → List ℕ → ℕ → Type 0) (before after : Pipe) (end : StreamEnd) : Type 0 where
  pub all : PumpsAll ends before after end.status
  pub told : end.inside ≡ inside all.bytes

-- A read failed. What was written is exactly what is decided by the bytes that the reads gave.
pub record ReadFails (sees : List ℕ → List ℕ → Type 0) (before after : Pipe) : Type 0 where
  pub bytes : List ℕ
  pub text : List ℕ
  pub moved : Moves bytes text before after
  pub size : length bytes ≤ most_bytes
  pub seen : sees bytes text
  pub rose : Rose before.input.faults after.input.faults
  pub out : after.out.faults ≡ before.out.faults

-- It stopped at a piece, with no fault. What was written is what the reads before that piece decide.
pub record StopsBefore (sees : List ℕ → List ℕ → Type 0) (before after : Pipe) : Type 0 where
  pub front : List ℕ
  pub few : length front ≤ most_bytes
  pub piece : List ℕ
  pub short : length piece ≤ most_at_once
  pub text : List ℕ
  pub moved : Moves (front ++ piece) text before after
  pub seen : sees front text
  pub faults : NoFault before after

-- what is due once these bytes were read: what they decide, or where they are all, their whole text
abbrev pub IsDue : (sees : List ℕ → List ℕ → Type 0) (ends : List ℕ → List ℕ → ℕ → Type 0) → Option (List ℕ) → List ℕ → List ℕ → Type 0
IsDue sees ends left bytes text = sees bytes text ⊎ ((status : ℕ) × IsAtEnd left × ends bytes text status)

-- A write failed. What the reads before the last piece decide was written, and of what was due with that piece a part.
pub record WriteFails (sees : List ℕ → List ℕ → Type 0) (ends : List ℕ → List ℕ → ℕ → Type 0) (before after : Pipe) : Type 0 where
  pub front : List ℕ
  pub piece : List ℕ
  pub short : length piece ≤ most_at_once
  pub size : length (front ++ piece) ≤ most_bytes
  pub shown : List ℕ
  pub seen : sees front shown
  pub more : List ℕ
  pub due : IsDue sees ends after.input.told (front ++ piece) (shown ++ more)
  pub count : ℕ
  pub moved : Moves (front ++ piece) (shown ++ take count more) before after
  pub rose : Rose before.out.faults after.out.faults
  pub input : after.input.faults ≡ before.input.faults

-- the input has more bytes than it may
abbrev pub IsTooLongInput : Pipe → Type 0
IsTooLongInput before = IfSome before.input.told (λ bytes. most_bytes < length bytes)

-- It stopped at the piece with which more was read than an input may have.
pub record PassesLimit (sees : List ℕ → List ℕ → Type 0) (before after : Pipe) : Type 0 where
  pub stops : StopsBefore sees before after
  pub longer : most_bytes < length (stops.front ++ stops.piece)
  pub told : IsTooLongInput before

-- what a pump has done of a pipe, for each result: it came to the end, or stopped for this fault
abbrev pub Pumps : (inside : List ℕ → Bool) (sees : List ℕ → List ℕ → Type 0) (ends : List ℕ → List ℕ → ℕ → Type 0) → Pipe → Pipe → Result StreamEnd PumpFault → Type 0
Pumps inside sees ends before after (Ok end) = PumpsToEnd inside ends before after end
Pumps inside sees ends before after (Err Input) = ReadFails sees before after
Pumps inside sees ends before after (Err TooLong) = PassesLimit sees before after
Pumps inside sees ends before after (Err Output) = WriteFails sees ends before after
Pumps inside sees ends before after (Err NoMemory) = StopsBefore sees before after

-- The stream has a text, and of that text a first part was written.
pub record HasWrittenFirst (ends : List ℕ → List ℕ → ℕ → Type 0) (old new : Option (List ℕ)) (bytes : List ℕ) : Type 0 where
  pub text : List ℕ
  pub status : ℕ
  pub filtered : ends bytes text status
  pub written : AppendsPrefix old new text

-- the same of a told input whose bytes are bytes
abbrev pub WritesFirst : (ends : List ℕ → List ℕ → ℕ → Type 0) → Option (List ℕ) → Option (List ℕ) → List ℕ → Type 0
WritesFirst ends old new bytes = AreBytes bytes → HasWrittenFirst ends old new bytes
