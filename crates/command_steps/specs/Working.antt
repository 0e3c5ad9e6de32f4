-- The step of a run that starts its workers and records them, and what its code keeps.
use Rattle.std.specs.Prelude.{ℕ, Bool, List, Result, Ok, Err}
use Rattle.outcome_fold.specs.declared.row.Row.{Row}
use Rattle.outcome_fold.specs.declared.summary.Summary.{Summary}
use Rattle.suite_run.specs.Recording.{RecordsLanes}
use Rattle.suite_run.specs.Starting.{StartsLanes}
use Rattle.command_steps.specs.Outside.{Work, work_folder, work_spawner}
use Rattle.command_steps.specs.Refreshing.{Refreshes}
use Rattle.command_steps.specs.Selecting.{Planned}
use Rattle.command_steps.specs.Steps.{Step, Then, Gives, At}
use Rattle.command_steps.specs.Store.{Begins, Keeps}
use Rattle.command_steps.specs.declared.worker_run.Kept.{Kept}
use Rattle.command_steps.specs.declared.worker_run.Ran.{Ran}
use Rattle.command_steps.specs.declared.answer.Refusal.{Refusal}
use Rattle.command_steps.specs.declared.answer.Refusal.TheVariants.{Start, Lanes, Keep, Refresh}

-- ---- `run`

-- The workers are started, each with its job, and read to their ends, side by side; what is recorded of them, and of the ids
-- that their jobs name, becomes the run of this number, and the caches cover it. It gives the run's rows.
abbrev pub Works : (partial : Bool) → (number : ℕ) → Planned → Step Work (List Row) Refusal
Works partial number plan =
    Then Keep (At work_folder Begins) (λ _.
    Then Start (At work_spawner (StartsLanes plan.jobs plan.asked)) (λ rests.
    Then Lanes (At work_folder (RecordsLanes rests)) (λ rows.
    Then Keep (At work_folder (Keeps partial number)) (λ _.
    Then Refresh (At work_folder (Refreshes number rows)) (λ _.
    Gives rows)))))

-- the answer, of what was done what is kept of the rows alone
abbrev pub summary_in : {E : Type 0} → Result Ran E → Result Summary E
summary_in (Ok ran) = Ok ran.summary
summary_in (Err refusal) = Err refusal

-- the same of what is known of a run that is kept
abbrev pub kept_in : {E : Type 0} → Result Kept E → Result Summary E
kept_in (Ok kept) = Ok kept.summary
kept_in (Err refusal) = Err refusal
