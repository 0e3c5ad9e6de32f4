-- What a reader knows of the lines that it was given.
use Rattle.std.specs.Prelude.{◌≡◌, ℕ, ◌≤◌, List, Some, None, length}
use Rattle.packet_codec.specs.declared.status.Status.{Status}
use Rattle.v1_bridge.specs.declared.line.Line.{Line as Read}
use Rattle.v1_bridge.specs.declared.line.Line.TheVariants as read
use Rattle.v1_bridge.specs.declared.line.Outcome.{Outcome}
use Rattle.v1_bridge.specs.declared.reader.V1Reader.{V1Reader}
use Rattle.v1_bridge.specs.declared.details_stage.OpenTest.{OpenTest}
use Rattle.v1_bridge.specs.declared.details_stage.Stage.{Stage}
use Rattle.v1_bridge.specs.Lines.{V1Line, EndedLine, test, outcome, time, tagging, progress, other}
use Rattle.v1_bridge.specs.Reading.{with_test, State, Input, start, state_behind}
use Rattle.v1_bridge.specs.Fitting.{IsShortState}

-- how a test ended, by the bytes that the code lends
abbrev pub ended_meant : Outcome → EndedLine
ended_meant o = record { how = o.how; rest = o.rest.now }

-- what a line is, by the bytes that the code lends
abbrev pub line_meant : Read → V1Line
line_meant (read.Test id) = test id.now
line_meant (read.Outcome o) = outcome o.how o.rest.now
line_meant (read.Time stamp) = time stamp
line_meant (read.Tags words) = tagging words.now
line_meant read.Progress = progress
line_meant read.Other = other

-- The id of a test, or the words of tags, have at most so many bytes.
abbrev pub HasShortParts : Read → ℕ → Type 0
HasShortParts (read.Test id) most = length id.now ≤ most
HasShortParts (read.Outcome o) most = Unit {0}
HasShortParts (read.Time stamp) most = Unit {0}
HasShortParts (read.Tags words) most = length words.now ≤ most
HasShortParts read.Progress most = Unit {0}
HasShortParts read.Other most = Unit {0}

-- what the reader knows
abbrev pub state_of : V1Reader → State
state_of r = record { last = r.last; tags = r.tags; open_test = r.open_test }

-- an open test without details
abbrev pub plain_test : List ℕ → List (List ℕ) → OpenTest
plain_test id names = record { id = id; tags = names; details = None }

-- an open test with details
abbrev pub detailed_test : List ℕ → List (List ℕ) → Status → Stage → OpenTest
detailed_test id names how stage = record { id = id; tags = names; details = Some (record { how = how; stage = stage }) }

-- the reader's state where this test is open, which was taken out
abbrev pub with_open : V1Reader → OpenTest → State
with_open r t = with_test (state_of r) (Some t)

-- the reader was given these lines and pieces
abbrev pub HasRead : V1Reader → List Input → Type 0
HasRead reader inputs = state_of reader ≡ state_behind start inputs

-- What the reader knows is short. So it is from the start on, and each event that a short line gives has a packet.
abbrev pub HoldsLittle : V1Reader → Type 0
HoldsLittle reader = IsShortState (state_of reader)
