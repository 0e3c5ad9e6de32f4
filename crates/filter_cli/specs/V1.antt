-- Lines of version 1 as packets, as the lines come (docs/FORMATS.md, "Version 1").
use Rattle.std.specs.Prelude.{◌≡◌, ℕ, List, [], ◌++◌, length, map, nat_lt, if◌then◌else◌}
use Rattle.std.specs.List.{flat_map}
use Rattle.v1_bridge.specs.Events.{longest_v1_line, full_pieces}
use Rattle.v1_bridge.specs.Reading.{Input, front_piece, inputs_of, events_so_far, v1_events}
use Rattle.packet_codec.specs.Canonical.{packets_of}
use Rattle.sub_number.specs.Lines.{with_newline}
use Rattle.filter_cli.specs.Lines.{IsSplit, last_line}

-- The full pieces of a line whose end is not there yet, where it is too long already. Until then none of its bytes is
-- decided.
abbrev pub pieces_seen : List ℕ → List Input
pieces_seen rest = if nat_lt longest_v1_line (length rest) then map front_piece (full_pieces rest) else []

-- the inputs of lines, each with its newline
abbrev pub inputs_of_lines : List (List ℕ) → List Input
inputs_of_lines lines = flat_map inputs_of (map with_newline lines)

-- the inputs of a whole stream
abbrev pub all_inputs : List (List ℕ) → List ℕ → List Input
all_inputs lines rest = flat_map inputs_of (map with_newline lines ++ last_line rest)

-- The text that the first bytes of a stream decide, whatever follows: what the lines give that ended, and the full
-- pieces of what stands behind them.
pub record IsV1Seen (bytes text : List ℕ) : Type 0 where
  pub lines : List (List ℕ)
  pub rest : List ℕ
  pub split : IsSplit bytes lines rest
  pub made : text ≡ packets_of (events_so_far (inputs_of_lines lines ++ pieces_seen rest))

-- the text of a whole stream, and its status
pub record IsV1Filtered (bytes text : List ℕ) (answer : ℕ) : Type 0 where
  pub lines : List (List ℕ)
  pub rest : List ℕ
  pub split : IsSplit bytes lines rest
  pub made : text ≡ packets_of (v1_events (map with_newline lines ++ last_line rest))
  pub status : answer ≡ 0
