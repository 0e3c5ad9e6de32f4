-- `testr load`, as the chain of its steps.
use Rattle.std.specs.Prelude.{ℕ, List, [], length}
use Rattle.run_shelf.specs.Holds.{kinds_of}
use Rattle.command_steps.specs.Steps.{Step, Then, Still, Gives, At}
use Rattle.command_steps.specs.Outside.{Work, work_folder, work_out}
use Rattle.command_steps.specs.Store.{Opens, TakesRun, Begins, Keeps}
use Rattle.command_steps.specs.Files.{RecordsSources}
use Rattle.command_steps.specs.Refreshing.{Refreshes}
use Rattle.command_steps.specs.Reporting.{Reports, Prints}
use Rattle.command_steps.specs.declared.answer.Verdict.{Verdict}
use Rattle.command_steps.specs.declared.answer.Refusal.{Refusal}
use Rattle.command_steps.specs.declared.answer.Refusal.TheVariants.{Open, Runs, Keep, Record, Memory, Refresh, Print}
use Rattle.testr_words.specs.Suites.{LoadOptions}

-- `load`, step by step: sources are recorded as a draft, the report is made, the draft becomes a run, and behind it
-- caches are brought up and the report printed
abbrev pub Loads : LoadOptions → List (List ℕ) → Step Work Verdict Refusal
Loads options names =
    Then Open (At work_folder Opens) (λ found.
    Then Runs (Still (TakesRun (length (kinds_of found)))) (λ _.
    Then Keep (At work_folder Begins) (λ _.
    Then Record (RecordsSources names) (λ rows.
    Then Memory (Still (Reports options.format (length (kinds_of found)) [] rows)) (λ report.
    Then Keep (At work_folder (Keeps options.partial (length (kinds_of found)))) (λ _.
    Then Refresh (At work_folder (Refreshes (length (kinds_of found)) rows)) (λ _.
    Then Print (At work_out (Prints report.text)) (λ _.
    Gives report.verdict))))))))
