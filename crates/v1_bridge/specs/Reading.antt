-- What the lines of version 1 mean as events (docs/FORMATS.md, "Version 1").
use Rattle.std.specs.Prelude.{ℕ, ◌*◌, ◌/◌, ◌&&◌, Bool, true, false, Option, Some, None, List, [], ◌∷◌, ◌++◌, map, drop, length, nat_eq, nat_lt, codes, if◌then◌else◌}
use Rattle.std.specs.List.{flat_map}
use Rattle.std.specs.Cmp.Lexicographic.{pointwise}
use Rattle.packet_codec.specs.declared.stamp.Stamp.{Stamp}
use Rattle.packet_codec.specs.declared.event.Event.{Event}
use Rattle.packet_codec.specs.declared.status.Status.{Status}
use Rattle.sub_number.specs.Lines.{begins}
use Rattle.v1_bridge.specs.declared.part.Part.{Part}
use Rattle.v1_bridge.specs.declared.details_stage.Stage.{Stage}
use Rattle.v1_bridge.specs.declared.details_stage.Stage.TheVariants as stage
use Rattle.v1_bridge.specs.declared.details_stage.Details.{Details}
use Rattle.v1_bridge.specs.declared.details_stage.OpenTest.{OpenTest}
use Rattle.v1_bridge.specs.Lines.{V1Line, test, outcome, time, tagging, progress, other, line_of, content, without_newline}
use Rattle.v1_bridge.specs.TagWords.{is_name, retagged}
use Rattle.v1_bridge.specs.Events.{longest_v1_line, full_pieces, line_event, stdout_events_of, lines_part, begun_event, completing_event, left_of, rest_events}
use Rattle.v1_bridge.specs.Stages.{StageStep, stage_line, stage_piece, ends_details, held_part}

-- What is known behind some lines: the last time, the tags outside a test, and the open test. Tags are in the order of
-- their bytes, each once.
pub record State : Type 0 where
  pub last : Option Stamp
  pub tags : List (List ℕ)
  pub open_test : Option OpenTest

-- before the first line
abbrev pub start : State
start = record { last = None; tags = []; open_test = None }

-- what a line gives, and what is known behind it
pub record LineStep : Type 0 where
  pub given : List Event
  pub state : State

-- Lines, and the pieces of those that are too long.

-- A line, with its newline, which only the last line of a stream may lack; or a piece of a line that is too long, and
-- whether it is its last one, which has the newline where the line has one.
pub data Input : Type 0 where
  line : List ℕ → Input
  piece : List ℕ → Bool → Input

-- a piece that is not the last one
abbrev pub front_piece : List ℕ → Input
front_piece bytes = piece bytes false

-- the last piece of a line with its newline: what stands behind the full ones
abbrev pub last_piece : List ℕ → List ℕ
last_piece bytes = drop (longest_v1_line * (length (without_newline bytes) / longest_v1_line)) bytes

-- What a line, with its newline, is read as: itself, or its pieces where it has more than 65,536 bytes without the
-- newline. The last of these pieces may have no bytes.
abbrev pub inputs_of : List ℕ → List Input
inputs_of bytes =
    if nat_lt longest_v1_line (length (without_newline bytes)) then map front_piece (full_pieces (without_newline bytes)) ++ piece (last_piece bytes) true ∷ []
    else line bytes ∷ []

-- Steps.

-- nothing is given
abbrev pub quiet : State → LineStep
quiet s = record { given = []; state = s }

-- the line is no part of a test
abbrev pub foreign : State → List ℕ → LineStep
foreign s bytes = record { given = line_event bytes ∷ []; state = s }

-- the same state, but for the time
abbrev pub with_time : State → Stamp → State
with_time s stamp = record { last = Some stamp; tags = s.tags; open_test = s.open_test }

-- the same state, but for the open test
abbrev pub with_test : State → Option OpenTest → State
with_test s t = record { last = s.last; tags = s.tags; open_test = t }

-- the open test ends so
abbrev pub complete : State → OpenTest → Status → Option Part → LineStep
complete s t how part = record { given = completing_event s.last t.id t.tags how part ∷ []; state = with_test s None }

-- the open test with these details
abbrev pub detailed : OpenTest → Status → Stage → OpenTest
detailed t how stage = record { id = t.id; tags = t.tags; details = Some (record { how = how; stage = stage }) }

-- Details.

-- what is held is the file of the completing event, where anything is
abbrev pub ending_part : Option Part → Option Part
ending_part None = None
ending_part (Some p) = left_of p

-- what bytes of details give, while the test stays open
abbrev pub go_on : State → OpenTest → Status → StageStep → LineStep
go_on s t how told = record { given = told.given; state = with_test s (Some (detailed t how told.stage)) }

-- a line among the details, with its newline
abbrev pub detail_line : State → OpenTest → Details → List ℕ → LineStep
detail_line s t d bytes =
    if ends_details d.stage bytes then complete s t d.how (ending_part (held_part d.stage))
    else go_on s t d.how (stage_line t.id d.how d.stage bytes)

-- a piece among them
abbrev pub detail_piece : State → OpenTest → Details → List ℕ → Bool → LineStep
detail_piece s t d bytes last = go_on s t d.how (stage_piece t.id d.how d.stage bytes last)

-- Lines outside of details, of which this is the content.

-- details begin
abbrev pub begin_details : State → OpenTest → Status → Stage → LineStep
begin_details s t how stage = quiet (with_test s (Some (detailed t how stage)))

-- these bytes follow the id
abbrev pub is_id_and : List ℕ → List ℕ → List ℕ → Bool
is_id_and more id rest = begins id rest && pointwise nat_eq (drop (length id) rest) more

-- an outcome that is told with these bytes behind the word, while this test is open
abbrev pub end_test : State → OpenTest → List ℕ → Status → List ℕ → LineStep
end_test s t bytes how rest =
    if pointwise nat_eq t.id rest then complete s t how None
    else if is_id_and (codes " [") t.id rest then begin_details s t how (stage.Lines (lines_part how))
    else if is_id_and (codes " [ multipart") t.id rest then begin_details s t how stage.Between
    else foreign s bytes

-- the test of this id begins, with the tags outside a test
abbrev pub new_open_test : State → List ℕ → OpenTest
new_open_test s id = record { id = id; tags = s.tags; details = None }

-- a line that tells the id of a test: it begins that test, or is no part of one where the id is empty or no text
abbrev pub begin_test : State → List ℕ → List ℕ → LineStep
begin_test s bytes id =
    if is_name id then record { given = begun_event s.last id ∷ []; state = with_test s (Some (new_open_test s id)) }
    else foreign s bytes

-- the tags outside a test become these, where they can
abbrev pub change_tags : State → List ℕ → Option (List (List ℕ)) → LineStep
change_tags s bytes None = foreign s bytes
change_tags s bytes (Some names) = quiet (record { last = s.last; tags = names; open_test = s.open_test })

-- the open test's tags become these, where they can
abbrev pub change_own_tags : State → OpenTest → List ℕ → Option (List (List ℕ)) → LineStep
change_own_tags s t bytes None = foreign s bytes
change_own_tags s t bytes (Some names) = quiet (with_test s (Some (record { id = t.id; tags = names; details = None })))

-- a line where no test is open
abbrev pub step_outside : State → List ℕ → V1Line → LineStep
step_outside s bytes (test id) = begin_test s bytes id
step_outside s bytes (outcome how rest) = foreign s bytes
step_outside s bytes (time stamp) = quiet (with_time s stamp)
step_outside s bytes (tagging words) = change_tags s bytes (retagged s.tags words)
step_outside s bytes progress = quiet s
step_outside s bytes other = foreign s bytes

-- a line within a test, which is not among details
abbrev pub step_inside : State → OpenTest → List ℕ → V1Line → LineStep
step_inside s t bytes (test id) = foreign s bytes
step_inside s t bytes (outcome how rest) = end_test s t bytes how rest
step_inside s t bytes (time stamp) = quiet (with_time s stamp)
step_inside s t bytes (tagging words) = change_own_tags s t bytes (retagged t.tags words)
step_inside s t bytes progress = quiet s
step_inside s t bytes other = foreign s bytes

-- Any line and piece.

-- a line while this test is open: one of its details, where these have begun, or else one outside of details
abbrev pub line_within : State → OpenTest → Option Details → List ℕ → LineStep
line_within s t None bytes = step_inside s t (content bytes) (line_of (content bytes))
line_within s t (Some d) bytes = detail_line s t d bytes

-- a line, with its newline, where this test is open or none is
abbrev pub line_step : State → Option OpenTest → List ℕ → LineStep
line_step s None bytes = step_outside s (content bytes) (line_of (content bytes))
line_step s (Some t) bytes = line_within s t t.details bytes

-- a piece that is no detail
abbrev pub piece_outside : State → List ℕ → LineStep
piece_outside s bytes = record { given = stdout_events_of (without_newline bytes); state = s }

-- a piece while this test is open: one of its details, where these have begun, or else output of no test
abbrev pub piece_within : State → OpenTest → Option Details → List ℕ → Bool → LineStep
piece_within s t None bytes last = piece_outside s bytes
piece_within s t (Some d) bytes last = detail_piece s t d bytes last

-- a piece of a line that is too long, where this test is open or none is
abbrev pub piece_step : State → Option OpenTest → List ℕ → Bool → LineStep
piece_step s None bytes last = piece_outside s bytes
piece_step s (Some t) bytes last = piece_within s t t.details bytes last

-- what one line or piece gives behind what is known, and what is known then
abbrev pub step : State → Input → LineStep
step s (line bytes) = line_step s s.open_test bytes
step s (piece bytes last) = piece_step s s.open_test bytes last

-- Lists of lines.

-- what is known behind these lines and pieces, which begin where this is known
abbrev pub state_behind : State → List Input → State
state_behind s [] = s
state_behind s (input ∷ inputs) = state_behind (step s input).state inputs

-- the events of these lines and pieces, which begin where this is known, without what the end gives
abbrev pub events_from : State → List Input → List Event
events_from s [] = []
events_from s (input ∷ inputs) = (step s input).given ++ events_from (step s input).state inputs

-- what one line or piece more gives, behind these
abbrev pub events_given_behind : List Input → Input → List Event
events_given_behind inputs input = (step (state_behind start inputs) input).given

-- what the end gives of a part
abbrev pub part_left : List ℕ → Option Part → List Event
part_left id None = []
part_left id (Some p) = rest_events id p

-- what the end gives of the details of a test, where they have begun
abbrev pub details_left : List ℕ → Option Details → List Event
details_left id None = []
details_left id (Some d) = part_left id (held_part d.stage)

-- what the end gives
abbrev pub events_at_end : Option OpenTest → List Event
events_at_end None = []
events_at_end (Some t) = details_left t.id t.details

-- what these lines and pieces give before the end
abbrev pub events_so_far : List Input → List Event
events_so_far inputs = events_from start inputs

-- what they give, and the end
abbrev pub events_of_inputs : List Input → List Event
events_of_inputs inputs = events_so_far inputs ++ events_at_end (state_behind start inputs).open_test

-- what the lines give, each with its newline, which the last one may lack
abbrev pub v1_events : List (List ℕ) → List Event
v1_events lines = events_of_inputs (flat_map inputs_of lines)

-- what is left of a line, where pieces of it were given or none
abbrev pub last_input : Bool → List ℕ → Input
last_input false bytes = line bytes
last_input true bytes = piece bytes true
