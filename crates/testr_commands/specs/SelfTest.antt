-- `testr selftest`: what its workers print, and the chain of its steps.
use Rattle.std.specs.Prelude.{◌≡◌, ℕ, List, [], ◌++◌, length, map, Result, IfOk}
use Rattle.std.specs.Io.KnownBytes.{Appends}
use Rattle.std.specs.List.{flat_map, range_with_len}
use Rattle.drawn_lanes.specs.Outputs.{drawn_events}
use Rattle.edge_io.specs.Children.{Output}
use Rattle.edge_io.specs.Spawners.{Spawning}
use Rattle.edge_io.specs.declared.job.Job.{Job}
use Rattle.outcome_fold.specs.Answers.{status_of}
use Rattle.outcome_fold.specs.Rows.{rows_of}
use Rattle.outcome_fold.specs.declared.row.Row.{Row}
use Rattle.packet_codec.specs.Lanes.{joined}
use Rattle.packet_codec.specs.Routing.{under}
use Rattle.packet_codec.specs.declared.event.Event.{Event}
use Rattle.sub_number.specs.declared.memory.NoMemory.{NoMemory}
use Rattle.sub_text.specs.Texts.{summary_text}
use Rattle.worker_mux.specs.Outputs.{lists_from}
use Rattle.command_steps.specs.Outside.{Work, work_out}
use Rattle.command_steps.specs.Reporting.{Prints}
use Rattle.command_steps.specs.Steps.{Step, Then, Still, Gives, At}
use Rattle.command_steps.specs.Verdicts.{verdict_of}
use Rattle.command_steps.specs.declared.answer.Verdict.{Verdict}
use Rattle.command_steps.specs.declared.answer.Refusal.{Refusal}
use Rattle.command_steps.specs.declared.answer.Refusal.TheVariants.{Memory, Print}
use Rattle.testr_words.specs.declared.selftest_words.SelfTestWords.{SelfTestWords}
use Rattle.command_steps.specs.declared.question_answers.Told.{Told}

-- the events of one lane's worker, under the lane
abbrev pub lane_of : SelfTestWords → (lane : ℕ) → List Event
lane_of drawing lane = map (under lane) (drawn_events drawing.seed drawing.tests lane)

-- the events of the first worker, then those of the next, and so on, each under its lane
abbrev pub events_in_turn : SelfTestWords → List Event
events_in_turn drawing = flat_map (lane_of drawing) (range_with_len 0 drawing.lanes)

-- the rows of the drawn lanes, one lane after another
abbrev pub rows_in_turn : SelfTestWords → List Row
rows_in_turn drawing = rows_of (events_in_turn drawing)

-- The jobs were started, and these are the rows of what is recorded of their outputs, one after another.
pub record RunsInTurn (jobs : List Job) (s : Spawning) (rows : List Row) : Type 0 where
  pub outputs : List Output
  pub later : List Output
  pub taken : s.outputs ≡ outputs ++ later
  pub count : length outputs ≡ length jobs
  pub in_turn : rows ≡ rows_of (joined (lists_from 0 outputs))

-- the text is the summary of these rows as run 0, and the verdict is theirs
pub record IsSummary (rows : List Row) (told : Told) : Type 0 where
  pub text : told.text.items ≡ summary_text rows 0 []
  pub verdict : told.verdict ≡ verdict_of rows

-- The workers were run in memory, side by side, and summed up: whatever their threads did, the rows are those of the
-- workers one after another.
pub record SumsUp (drawing : SelfTestWords) (result : Result Told NoMemory) : Type 0 where
  pub told : IfOk result (IsSummary (rows_in_turn drawing))

-- `selftest`, step by step: the drawn workers are run and summed up, and the summary is printed
abbrev pub TestsItself : SelfTestWords → Step Work Verdict Refusal
TestsItself drawing =
    Then Memory (Still (SumsUp drawing)) (λ told.
    Then Print (At work_out (Prints told.text.items)) (λ _.
    Gives told.verdict))

-- The summary of the drawn workers was printed and the status is theirs: both are those of the workers one after another,
-- whatever the threads did that read them.
pub record SumsUpAll (drawing : SelfTestWords) (before after : Work) (answer : ℕ) : Type 0 where
  pub printed : Appends before.out.told after.out.told (summary_text (rows_in_turn drawing) 0 [])
  pub status : answer ≡ status_of (rows_in_turn drawing)
