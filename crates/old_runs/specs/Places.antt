-- Where the lines of a file stand: among the details of a test, or not (docs/FORMATS.md, "Version 1").
use Rattle.std.specs.Prelude.{◌≡◌, ℕ, ◌==◌, Bool, true, false, not, is_some, Option, Some, None, IfSome, List, length, nat_eq, codes, if◌then◌else◌}
use Rattle.std.specs.List.{ends_with, list_any}
use Rattle.packet_codec.specs.declared.event.Event.{Event}
use Rattle.packet_codec.specs.declared.status.Status.{Status}
use Rattle.packet_codec.specs.declared.status.Status.TheVariants as status
use Rattle.v1_bridge.specs.declared.details_stage.Stage.{Stage}
use Rattle.v1_bridge.specs.declared.details_stage.Stage.TheVariants as stage
use Rattle.v1_bridge.specs.declared.details_stage.Details.{Details}
use Rattle.v1_bridge.specs.declared.details_stage.OpenTest.{OpenTest}
use Rattle.v1_bridge.specs.Lines.{content, outcome_of}
use Rattle.v1_bridge.specs.Reading.{State}
use Rattle.old_runs.specs.declared.line_place.Place.{Place}
use Rattle.old_runs.specs.declared.line_place.Place.TheVariants.{Outside, Lines, Parts}

-- ---- what is known behind some lines tells the place

-- where the next line stands while details are read: among lines up to a bracket, or among parts, whatever of a part was
-- read
abbrev pub place_at : Stage → Place
place_at (stage.Lines p) = Lines
place_at stage.Between = Parts
place_at (stage.Typed mime) = Parts
place_at (stage.Bytes p place) = Parts

-- the same of a test's details, where there may be none: then it stands outside of details
abbrev pub place_in : Option Details → Place
place_in None = Outside
place_in (Some d) = place_at d.stage

-- the same of the test that is open, where there may be none
abbrev pub place_of : Option OpenTest → Place
place_of None = Outside
place_of (Some t) = place_in t.details

-- the next line stands among the parts of the open test
abbrev pub IsAmongParts : State → Type 0
IsAmongParts s = place_of s.open_test ≡ Parts

-- ---- a line, and what it gives, tell the next one

-- the status says nothing of the test
abbrev pub is_unset : Status → Bool
is_unset status.Unset = true
is_unset status.Exists = false
is_unset status.InProgress = false
is_unset status.Success = false
is_unset status.UxSuccess = false
is_unset status.Skip = false
is_unset status.Fail = false
is_unset status.XFail = false

-- the event is no piece of a file
abbrev pub has_status : Event → Bool
has_status e = not (is_unset e.status)

-- The place that a line outside of details begins, which gives nothing: that of its details, where it is an outcome line.
abbrev pub place_begun : List ℕ → Place
place_begun bytes = if is_some (outcome_of bytes) then (if ends_with nat_eq bytes (codes "[") then Lines else Parts) else Outside

-- outside of details
abbrev pub outside_details : Place
outside_details = Outside

-- Where the next line stands behind a line, or a piece of one, that stood here and gave these events. Details go on
-- until an event with a status comes, which ends their test.
abbrev pub place_behind : Place → List ℕ → List Event → Place
place_behind Outside bytes given = if length given == 0 then place_begun (content bytes) else Outside
place_behind Lines bytes given = if list_any has_status given then Outside else Lines
place_behind Parts bytes given = if list_any has_status given then Outside else Parts

-- ---- of which states that holds

-- the status with which a test ended whose details follow is one of a test that ended
abbrev pub HasOutcome : Details → Type 0
HasOutcome d = is_unset d.how ≡ false

-- the same of an open test, where its details are being read
abbrev pub HasOutcomeIn : OpenTest → Type 0
HasOutcomeIn t = IfSome t.details HasOutcome

-- the same of what is known behind some lines, where a test is open
abbrev pub HasOutcomes : State → Type 0
HasOutcomes s = IfSome s.open_test HasOutcomeIn
