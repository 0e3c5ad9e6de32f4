-- What a list of lines of the Test Anything Protocol means as events (docs/FORMATS.md, "TAP").
use Rattle.std.specs.Prelude.{ℕ, ◌+◌, ◌-◌, ◌==◌, ◌&&◌, Bool, true, false, Option, Some, None, List, [], ◌∷◌, ◌++◌, map, take, length, max, nat_lt, is_some, codes, if◌then◌else◌}
use Rattle.std.specs.List.{filter, filter_map, flat_map, fold, last_or, before_last, after_last, range_with_len}
use Rattle.std.specs.Option.{option_map, option_to_list, unwrap_or}
pub use Rattle.packet_codec.specs.Pieces.{pieces_of}
pub use Rattle.sub_number.specs.Numbers.{one_more}
use Rattle.sub_number.specs.Lines.{without_return, with_newline}
use Rattle.packet_codec.specs.declared.event.Event.{Event}
use Rattle.packet_codec.specs.declared.event.FilePart.{FilePart}
use Rattle.packet_codec.specs.declared.status.Status.{Status}
use Rattle.packet_codec.specs.declared.status.Status.TheVariants as status
use Rattle.stream_reader.specs.Notes.{stdout_event}
use Rattle.tap_bridge.specs.declared.directive.Directive.{Directive}
use Rattle.tap_bridge.specs.declared.directive.Directive.TheVariants as directive
use Rattle.tap_bridge.specs.declared.plan.Plan.{Plan}
use Rattle.tap_bridge.specs.Grammar.{Test, TapLine, plan, test, comment, bail_out, other, tap_line_of}
use Rattle.tap_bridge.specs.Ids.{id_from, test_name}

-- The lines of a list.

-- the most bytes of a line, its carriage return counted
abbrev pub longest_tap_line : ℕ
longest_tap_line = 65536

-- a line of the protocol, or bytes that are too many for one
pub data TapInput : Type 0 where
  line : TapLine → TapInput
  too_long : List ℕ → TapInput

-- what the bytes of a line are taken for: too long, or a line
abbrev pub input_of : List ℕ → TapInput
input_of bytes = if nat_lt longest_tap_line (length bytes) then too_long bytes else line (tap_line_of (without_return bytes))

-- Numbers.

-- the test's own number, or else the next one
abbrev pub number_in : ℕ → Test → ℕ
number_in next t = unwrap_or t.number next

-- the number that the next test gets by itself, behind this line
abbrev pub number_after : ℕ → TapInput → ℕ
number_after next (line (plan p)) = next
number_after next (line (test t)) = max next (one_more (number_in next t))
number_after next (line (comment bytes)) = next
number_after next (line (bail_out id)) = next
number_after next (line (other bytes)) = next
number_after next (too_long bytes) = next

-- the next number behind these lines: 1 at first, and one more than the greatest that was given
abbrev pub next_number : List TapInput → ℕ
next_number lines = fold number_after 1 lines

-- The plan.

-- how many tests are planned behind this line
abbrev pub planned : Option ℕ → TapInput → Option ℕ
planned before (line (plan p)) = Some p.tests
planned before (line (test t)) = before
planned before (line (comment bytes)) = before
planned before (line (bail_out id)) = before
planned before (line (other bytes)) = before
planned before (too_long bytes) = before

-- how many tests the last plan has
abbrev pub planned_tests : List TapInput → Option ℕ
planned_tests lines = fold planned None lines

-- The test that waits for its comments.

-- a plan, a test line or a bail out, behind which no comment belongs to an earlier test
abbrev pub is_heading : TapInput → Bool
is_heading (line (plan p)) = true
is_heading (line (test t)) = true
is_heading (line (comment bytes)) = false
is_heading (line (bail_out id)) = true
is_heading (line (other bytes)) = false
is_heading (too_long bytes) = false

-- the bytes of a line that is a comment
abbrev pub comment_in : TapInput → Option (List ℕ)
comment_in (line (plan p)) = None
comment_in (line (test t)) = None
comment_in (line (comment bytes)) = Some bytes
comment_in (line (bail_out id)) = None
comment_in (line (other bytes)) = None
comment_in (too_long bytes) = None

-- a test line with its number and the comment lines behind it
pub record Waiting : Type 0 where
  pub number : ℕ
  pub shown : Test
  pub comments : List (List ℕ)

-- the test of the heading, if it is one, with the comment lines behind it
abbrev pub waiting_with : ℕ → List TapInput → Option TapInput → Option Waiting
waiting_with next behind None = None
waiting_with next behind (Some (line (plan p))) = None
waiting_with next behind (Some (line (test t))) = Some (record { number = number_in next t; shown = t; comments = filter_map comment_in behind })
waiting_with next behind (Some (line (comment bytes))) = None
waiting_with next behind (Some (line (bail_out id))) = None
waiting_with next behind (Some (line (other bytes))) = None
waiting_with next behind (Some (too_long bytes)) = None

-- the test that waits behind these lines: that of the last heading
abbrev pub waiting : List TapInput → Option Waiting
waiting lines = waiting_with (next_number (before_last is_heading lines)) (after_last is_heading lines) (last_or None (filter is_heading lines))

-- the line is a comment of a test that waits behind these lines
abbrev pub is_awaited : List TapInput → TapInput → Bool
is_awaited before this = is_some (comment_in this) && is_some (waiting before)

-- Events.

-- the type of the bytes of comments
abbrev pub comment_mime : List ℕ
comment_mime = codes "text/plain; charset=UTF8"

-- an event of the test of this id, with this file
abbrev pub event_with_id : List ℕ → Status → Option FilePart → Event
event_with_id id how file = record {
  stamp = None;
  id = Some id;
  tags = None;
  runnable = true;
  status = how;
  mime = option_map (λ part. comment_mime) file;
  file = file;
  eof = false;
  route = None;
}

-- an event of the test of this name, with this file
abbrev pub event_with_name : List ℕ → Status → Option FilePart → Event
event_with_name name how file = event_with_id (id_from name) how file

-- the status of a test, by its word and its directive
abbrev pub tap_status : Bool → Option Directive → Status
tap_status passed (Some directive.Skip) = status.Skip
tap_status passed (Some directive.Todo) = status.XFail
tap_status true None = status.Success
tap_status false None = status.Fail

-- the reason, where there is one, as the first comment line
abbrev pub reason_line : List ℕ → List (List ℕ)
reason_line reason = if length reason == 0 then [] else reason ∷ []

-- the bytes of a comment that are kept
abbrev pub comment_limit : ℕ
comment_limit = 65536

-- the reason and the comment lines, each with a newline, of which the first bytes are kept
abbrev pub comment_of : List ℕ → List (List ℕ) → List ℕ
comment_of reason comments = take comment_limit (flat_map with_newline (reason_line reason ++ comments))

-- the comment as a file, where it is not empty
abbrev pub comment_file : List ℕ → Option FilePart
comment_file bytes = if length bytes == 0 then None else Some (record { name = codes "tap comment"; bytes = bytes })

-- the event of a test with its reason and its comments
abbrev pub event_of_test : Waiting → Event
event_of_test w = event_with_name (test_name w.number w.shown.description) (tap_status w.shown.passed w.shown.directive) (comment_file (comment_of w.shown.reason w.comments))

-- the event of a test that was planned and did not come
abbrev pub missing_event : ℕ → Event
missing_event number = event_with_name (test_name number []) status.Fail (Some (record { name = codes "tap meta"; bytes = codes "test missing from TAP output" }))

-- the tests from the one number up to the other, without it, are missing
abbrev pub missing_events : ℕ → ℕ → List Event
missing_events first behind = map missing_event (range_with_len first (behind - first))

-- a plan of no tests that skips them
abbrev pub skipped_file : Plan → List Event
skipped_file p = if p.skipped && p.tests == 0 then event_with_name (codes "file skip") status.Skip None ∷ [] else []

-- the event of the waiting test, where one waits
abbrev pub events_of_waiting : List TapInput → List Event
events_of_waiting before = map event_of_test (option_to_list (waiting before))

-- what the line gives where these came before it
abbrev pub events_at : List TapInput → TapInput → List Event
events_at before (line (plan p)) = events_of_waiting before ++ skipped_file p
events_at before (line (test t)) = events_of_waiting before ++ missing_events (next_number before) (number_in (next_number before) t)
events_at before (line (comment bytes)) = if is_some (waiting before) then [] else stdout_event (with_newline bytes) ∷ []
events_at before (line (bail_out id)) = events_of_waiting before ++ event_with_name id status.Fail None ∷ []
events_at before (line (other bytes)) = stdout_event (with_newline bytes) ∷ []
events_at before (too_long bytes) = map stdout_event (pieces_of bytes)

-- the tests up to the plan's last one that were not seen
abbrev pub missing_at_end : Option ℕ → ℕ → List Event
missing_at_end None next = []
missing_at_end (Some tests) next = missing_events next (tests + 1)

-- what the end gives behind these lines
abbrev pub tap_events_at_end : List TapInput → List Event
tap_events_at_end lines = events_of_waiting lines ++ missing_at_end (planned_tests lines) (next_number lines)

-- what the lines give, one after another, where these came before them
abbrev pub tap_events_behind : List TapInput → List TapInput → List Event
tap_events_behind before [] = []
tap_events_behind before (this ∷ later) = events_at before this ++ tap_events_behind (before ++ this ∷ []) later

-- what the lines give before the end
abbrev pub tap_events_so_far : List (List ℕ) → List Event
tap_events_so_far lines = tap_events_behind [] (map input_of lines)

-- what the lines and the end give
abbrev pub tap_events : List (List ℕ) → List Event
tap_events lines = tap_events_so_far lines ++ tap_events_at_end (map input_of lines)
