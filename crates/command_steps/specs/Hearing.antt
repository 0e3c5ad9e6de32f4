-- What is heard of a recording (docs/COMMANDS.md, "Live lines").
use Rattle.std.specs.Prelude.{◌≡◌, ◌⊎◌, ℕ, List, [], ◌++◌, length, Result, Ok, Err}
use Rattle.live_text.specs.Live.{live_end, rows_done}
use Rattle.live_text.specs.declared.live.Live.{Live}
use Rattle.outcome_fold.specs.Rows.{open_rows, rows_of}
use Rattle.outcome_fold.specs.Summed.{Sums}
use Rattle.packet_codec.specs.Lanes.{joined}
use Rattle.packet_codec.specs.declared.event.Event.{Event}
use Rattle.suite_run.specs.Aloud.{ArePieces, Gathers, unsaid}
use Rattle.suite_run.specs.declared.lines.Hearing.{Hearing}
use Rattle.command_steps.specs.declared.files.Recorded.{Recorded}
use Rattle.command_steps.specs.declared.input_recorder.RecordFault.{RecordFault}
use Rattle.command_steps.specs.declared.input_recorder.RecordFault.TheVariants.{NoMemory}

-- By `heard`, which says of two moments and some pieces that these were heard between them, these bytes were: as pieces, each
-- of which is the packets of some events.
pub record HasHeard {L : Type 0} (heard : L → L → List (List ℕ) → Type 0) (begun now : L) (bytes : List ℕ) : Type 0 where
  pub groups : List (List Event)
  pub pieces : List (List ℕ)
  pub are_pieces : ArePieces groups pieces
  pub whole : bytes ≡ joined pieces
  pub holds : heard begun now pieces

-- behind what was heard by then, these bytes were
abbrev pub HearsMore : {L : Type 0} (heard : L → L → List (List ℕ) → Type 0) → (old new : L) → (bytes : List ℕ) → Type 0
HearsMore {L = L} heard old new bytes = (begun : L) (front : List ℕ) → HasHeard heard begun old front → HasHeard heard begun new (front ++ bytes)

-- some pieces were heard, or memory was wanted at the last of them
pub record StopsHearing {L : Type 0} (heard keeps : L → L → List (List ℕ) → Type 0) (begun now : L) : Type 0 where
  pub groups : List (List Event)
  pub pieces : List (List ℕ)
  pub are_pieces : ArePieces groups pieces
  pub holds : heard begun now pieces ⊎ keeps begun now pieces

-- so it is behind what was heard by then
abbrev pub MayStop : {L : Type 0} (heard keeps : L → L → List (List ℕ) → Type 0) → (old new : L) → Type 0
MayStop {L = L} heard keeps old new = (begun : L) (front : List ℕ) → HasHeard heard begun old front → StopsHearing heard keeps begun new

-- What is kept of the events that were heard, and the end of their lines, where nothing else is left to say; or memory was wanted.
abbrev pub ClosesRecording : Hearing → Result Recorded RecordFault → Type 0
ClosesRecording hearing (Ok recorded) = (filter_tags : List (List ℕ)) (kind : Live) (said : List ℕ) (events : List Event) → Gathers filter_tags kind said hearing events → unsaid hearing ≡ [] → Sums filter_tags (rows_of events) recorded.summary × (recorded.end.items ≡ live_end kind (length (rows_done events)) (open_rows events))
ClosesRecording hearing (Err fault) = fault ≡ NoMemory

-- why it was not recorded; or what was heard, closed
abbrev pub AnswersRecording : Result (Unit {0}) RecordFault → Hearing → Result Recorded RecordFault → Type 0
AnswersRecording (Ok done) hearing answer = ClosesRecording hearing answer
AnswersRecording (Err fault) hearing answer = answer ≡ Err fault
