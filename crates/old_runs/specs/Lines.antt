-- Lines of version 1 that are read as their bytes come.
use Rattle.std.specs.Prelude.{◌≡◌, ◌↔◌, ℕ, ◌*◌, ◌/◌, ◌≤◌, Bool, true, false, List, [], ◌∷◌, ◌++◌, map, length, take, drop}
use Rattle.std.specs.List.{flat_map, list_any}
use Rattle.packet_codec.specs.declared.event.Event.{Event}
use Rattle.v1_bridge.specs.Lines.{without_newline}
use Rattle.v1_bridge.specs.Events.{longest_v1_line, full_pieces}
use Rattle.v1_bridge.specs.Cutting.{line_size, lines_behind}
use Rattle.v1_bridge.specs.Reading.{Input, piece, front_piece, inputs_of, start, state_behind, events_so_far}
use Rattle.v1_bridge.specs.Kept.{HasRead, HoldsLittle}
use Rattle.old_runs.specs.declared.line_place.Place.{Place}
use Rattle.old_runs.specs.declared.line_place.Place.TheVariants.{Outside, Lines, Parts}
use Rattle.old_runs.specs.declared.heard_lines.Heard.{Heard}
use Rattle.old_runs.specs.declared.lines.OldLines.{OldLines}
use Rattle.old_runs.specs.Places.{place_of, HasOutcomes}
use Rattle.old_runs.specs.Files.{has_id, HasForeignPart, inputs_in}

-- ---- what bytes give behind some of their line

-- the first line, with its newline where it has one
abbrev pub line_front : List ℕ → List ℕ
line_front bytes = take (line_size bytes) bytes

-- what follows the first line and its newline
abbrev pub line_behind : List ℕ → List ℕ
line_behind bytes = drop (line_size bytes) bytes

-- What is left of a line of which pieces were given: held bytes, and then the rest of the line, with its newline where it
-- has one.
abbrev pub inputs_left : (held rest : List ℕ) → List Input
inputs_left held rest =
    let says = held ++ without_newline rest in
    map front_piece (full_pieces says) ++ piece (drop (longest_v1_line * (length says / longest_v1_line)) (held ++ rest)) true ∷ []

-- What these bytes give behind others of their line, which are held, where pieces of that line were given, or none.
abbrev pub inputs_behind : (long : Bool) → (held bytes : List ℕ) → List Input
inputs_behind false held bytes = flat_map inputs_of (lines_behind held bytes)
inputs_behind true held bytes = inputs_left held (line_front bytes) ++ inputs_in (line_behind bytes)

-- how much is held at most of a line whose end is not there yet
abbrev pub most_held_of_line : Bool → ℕ
most_held_of_line false = longest_v1_line
most_held_of_line true = 65535

-- ---- the reader

-- the place is among the parts of a test, whose line `]` is still to come
abbrev pub is_parts : Place → Bool
is_parts Outside = false
is_parts Lines = false
is_parts Parts = true

-- These lines and pieces were heard, and these events were handed on.
pub record HasHeardLines (heard : Heard) (inputs : List Input) (given : List Event) : Type 0 where
  pub taken : HasRead heard.reader inputs
  pub made : given ≡ events_so_far inputs
  pub place : heard.place ≡ place_of (state_behind start inputs).open_test
  pub outcomes : HasOutcomes (state_behind start inputs)
  pub told : heard.told ≡ list_any has_id given
  pub broken : (heard.broken ≡ true) ↔ HasForeignPart inputs

-- Of all these bytes the last ones are left. What was heard is what stands in front of them, but for what is held.
pub record HasCut (lines : OldLines) (all left : List ℕ) (given : List Event) : Type 0 where
  pub inputs : List Input
  pub heard : HasHeardLines lines.heard inputs given
  pub rest : (more : List ℕ) → inputs_in (all ++ more) ≡ inputs ++ inputs_behind lines.long lines.held.items (left ++ more)

-- these bytes were fed, and these events were handed on
abbrev pub HasFedLines : OldLines → List ℕ → List Event → Type 0
HasFedLines lines bytes given = HasCut lines bytes [] given

-- what is held is short
pub record AreReadyLines (lines : OldLines) : Type 0 where
  pub held : length lines.held.items ≤ most_held_of_line lines.long
  pub little : HoldsLittle lines.heard.reader
