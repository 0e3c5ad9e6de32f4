-- Lines of the Test Anything Protocol as packets, as the lines come (docs/FORMATS.md, "TAP").
use Rattle.std.specs.Prelude.{◌≡◌, ℕ, Bool, List, [], ◌++◌, length, map, nat_eq, nat_lt, if◌then◌else◌}
use Rattle.std.specs.List.{filter}
use Rattle.stream_reader.specs.Notes.{stdout_event}
use Rattle.tap_bridge.specs.Events.{longest_tap_line, pieces_of, tap_events_so_far, tap_events}
use Rattle.packet_codec.specs.Canonical.{packets_of}
use Rattle.filter_cli.specs.Lines.{IsSplit, last_line}

-- the piece has as many bytes as a piece may have, which is as many as the longest line has
abbrev pub is_full : List ℕ → Bool
is_full piece = nat_eq (length piece) longest_tap_line

-- The full pieces of a line whose end is not there yet, where it is too long for a line of the protocol already. Until
-- then none of its bytes is decided.
abbrev pub open_line_pieces : List ℕ → List (List ℕ)
open_line_pieces rest = if nat_lt longest_tap_line (length rest) then filter is_full (pieces_of rest) else []

-- The text that the first bytes of a stream decide, whatever follows: what the lines give that ended, and the full
-- pieces of what stands behind them.
pub record IsTapSeen (bytes text : List ℕ) : Type 0 where
  pub lines : List (List ℕ)
  pub rest : List ℕ
  pub split : IsSplit bytes lines rest
  pub made : text ≡ packets_of (tap_events_so_far lines ++ map stdout_event (open_line_pieces rest))

-- the text of a whole stream, and its status
pub record IsTapFiltered (bytes text : List ℕ) (answer : ℕ) : Type 0 where
  pub lines : List (List ℕ)
  pub rest : List ℕ
  pub split : IsSplit bytes lines rest
  pub made : text ≡ packets_of (tap_events (lines ++ last_line rest))
  pub status : answer ≡ 0
