-- What is given once the lanes were read.
use Rattle.std.specs.Prelude.{◌≡◌, ℕ, List, Option, Some, None, [], length, Result, Ok, Err, IfOk, IfErr, OnErr}
use Rattle.live_text.specs.Live.{live_end, rows_done}
use Rattle.live_text.specs.declared.live.Live.{Live}
use Rattle.outcome_fold.specs.Rows.{open_rows, rows_of}
use Rattle.outcome_fold.specs.Summed.{Sums}
use Rattle.outcome_fold.specs.declared.summary.Summary.{Summary}
use Rattle.packet_codec.specs.declared.event.Event.{Event}
use Rattle.run_shelf.specs.declared.faults.ShelfCall.{ShelfCall}
use Rattle.sub_number.specs.declared.memory.NoMemory as memory
use Rattle.suite_run.specs.Aloud.{Gathers, unsaid}
use Rattle.suite_run.specs.declared.lines.Hearing.{Hearing}
use Rattle.suite_run.specs.declared.lane_recorder.LanesRefusal.{LanesRefusal}
use Rattle.suite_run.specs.declared.lane_recorder.LanesRefusal.TheVariants.{Shelf, NoMemory}

-- What is kept of the events that were heard, and the end of their lines, where nothing else is left to say. For want of memory
-- there is no end.
pub record ClosesHearing (hearing : Hearing) (end : List ℕ) (answer : Result Summary LanesRefusal) : Type 0 where
  pub kept : (filter_tags : List (List ℕ)) (kind : Live) (said : List ℕ) (events : List Event) → Gathers filter_tags kind said hearing events → unsaid hearing ≡ []
      → IfOk answer (λ summary. Sums filter_tags (rows_of events) summary × (end ≡ live_end kind (length (rows_done events)) (open_rows events)))
  pub refused : OnErr answer (end ≡ [])
  pub why : IfErr answer (λ refusal. refusal ≡ NoMemory)

-- A call of the folder that failed decides; then want of memory.
abbrev pub AnswersLanes : Option ShelfCall → Result (Unit {0}) memory.NoMemory → Hearing → (end : List ℕ) → Result Summary LanesRefusal → Type 0
AnswersLanes (Some call) done hearing end answer = (answer ≡ Err (Shelf call)) × (end ≡ [])
AnswersLanes None (Err lack) hearing end answer = (answer ≡ Err NoMemory) × (end ≡ [])
AnswersLanes None (Ok unit) hearing end answer = ClosesHearing hearing end answer

-- a call of the folder that failed is told, and only that
abbrev pub IsDecidedBy : {A : Type 0} → Option ShelfCall → Result A LanesRefusal → Type 0
IsDecidedBy fault (Ok kept) = fault ≡ None
IsDecidedBy fault (Err (Shelf call)) = fault ≡ Some call
IsDecidedBy fault (Err NoMemory) = fault ≡ None
