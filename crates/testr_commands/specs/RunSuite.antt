-- `testr run` and `testr list-tests`, as the chains of their steps.
use Rattle.std.specs.Prelude.{◌≡◌, ℕ, Bool, Option, None, Some, List, length, Result, Ok, Err, IfOk}
use Rattle.std.specs.FinMap as fin
use Rattle.outcome_fold.specs.declared.row.Row.{Row}
use Rattle.run_shelf.specs.Holds.{kinds_of}
use Rattle.sub_number.specs.declared.memory.NoMemory.{NoMemory}
use Rattle.testr_conf.specs.Jobs.{id_lines}
use Rattle.testr_conf.specs.Settings.{Settings}
use Rattle.suite_plan.specs.ConfFile.{ReadsConf}
use Rattle.suite_plan.specs.Choosing.{Ids, with_further, chosen_of}
use Rattle.suite_plan.specs.Listing.{ListsTests}
use Rattle.suite_plan.specs.Patterns.{Compiles}
use Rattle.suite_plan.specs.Sharing.{ids_of_shard}
use Rattle.command_steps.specs.Causes.{FindsCauses}
use Rattle.command_steps.specs.Outside.{Work, work_folder, work_site, work_spawner, work_out}
use Rattle.command_steps.specs.Reporting.{Reports, Prints}
use Rattle.command_steps.specs.Selecting.{shard_times, picks_of, further_refusal, ReadsFurther, Selects, Plans}
use Rattle.command_steps.specs.Steps.{Step, Then, Still, Gives, At}
use Rattle.command_steps.specs.Store.{Opens, TakesRun}
use Rattle.testr_words.specs.Shards.{NumberedShard}
use Rattle.testr_words.specs.Suites.{ListOptions, Wanted, RunOptions, is_partial}
use Rattle.suite_plan.specs.declared.patterns.Compiled.{Compiled}
use Rattle.command_steps.specs.declared.test_selection.Further.{Further}
use Rattle.testr_commands.specs.declared.run.Asked.{Asked}
use Rattle.command_steps.specs.declared.answer.Verdict.{Verdict}
use Rattle.command_steps.specs.declared.answer.Verdict.TheVariants.{Passed}
use Rattle.command_steps.specs.declared.answer.Refusal.{Refusal}
use Rattle.command_steps.specs.declared.answer.Refusal.TheVariants.{Conf, Open, Runs, Pattern, Listing, Memory, Report, Print}
use Rattle.command_steps.specs.Working.{Works}
use Rattle.testr_words.specs.declared.format.FormatKind.{FormatKind}

-- ---- `list-tests`

-- the groups of tests, which count for a shard alone
abbrev pub groups_for : Option NumberedShard → Settings → Option (List ℕ)
groups_for None settings = None
groups_for (Some part) settings = settings.group_regex

-- of the tests listed, those that are wanted by the patterns, these and the further ones, and of them those of the shard
abbrev pub listed_ids : Wanted → Settings → Further → Ids → Ids
listed_ids wanted settings further ids =
    ids_of_shard (fin.get (shard_times further.times)) (groups_for wanted.shard settings) wanted.shard (chosen_of (with_further (picks_of wanted) further.picks) ids)

-- those, each on a line
pub record WritesIds (wanted : Wanted) (settings : Settings) (further : Further) (ids : Ids) (result : Result (List ℕ) NoMemory) : Type 0 where
  pub lines : IfOk result (λ text. text ≡ id_lines (listed_ids wanted settings further ids))

-- `list-tests` by these settings, step by step: patterns are compiled, lists of them read, and the tests that are listed
-- and wanted are printed
abbrev pub ListsBy : Wanted → Settings → Step Work Verdict Refusal
ListsBy wanted settings =
    Then Pattern (Still (Compiles wanted.patterns wanted.excluded (groups_for wanted.shard settings))) (λ _.
    Then further_refusal (At work_site (ReadsFurther wanted)) (λ further.
    Then Listing (At work_spawner (ListsTests settings)) (λ ids.
    Then Memory (Still (WritesIds wanted settings further ids)) (λ text.
    Then Print (At work_out (Prints text)) (λ _.
    Gives Passed)))))

-- `list-tests`, step by step: the configuration is read, and then it goes by its settings
abbrev pub ListsSuite : ListOptions → Step Work Verdict Refusal
ListsSuite options = Then Conf (At work_site (ReadsConf options.project)) (ListsBy options.wanted)

-- the report of the run of these rows and this number is made and printed, for this reader
abbrev pub TellsRun : FormatKind → (number : ℕ) → (filter_tags : Ids) → List Row → Step Work Verdict Refusal
TellsRun format number filter_tags rows =
    Then Report (Still (Reports format number filter_tags rows)) (λ report.
    Then Print (At work_out (Prints report.text)) (λ _.
    Gives report.verdict))

-- the report, and then the search for causes, where it is asked for; the verdict is that of the report
abbrev pub TellsAndFinds : FormatKind → (find_causes : Bool) → Settings → (number : ℕ) → List Row → Step Work Verdict Refusal
TellsAndFinds format find_causes settings number rows =
    Then (λ refusal. refusal) (TellsRun format number settings.filter_tags rows) (λ verdict.
    Then (λ refusal. refusal) (FindsCauses find_causes settings number rows) (λ _.
    Gives verdict))

-- the answer, of what is asked the patterns alone
abbrev pub compiled_in : {E : Type 0} → Result Asked E → Result Compiled E
compiled_in (Ok asked) = Ok asked.compiled
compiled_in (Err refusal) = Err refusal

-- `run` by these settings, step by step: the folder is opened, tests are selected and given to workers, these are run,
-- and what came of them is told
abbrev pub RunsBy : RunOptions → Settings → Step Work Verdict Refusal
RunsBy options settings =
    Then Open (At work_folder Opens) (λ found.
    Then Runs (Still (TakesRun (length (kinds_of found)))) (λ _.
    Then Pattern (Still (Compiles options.wanted.patterns options.wanted.excluded settings.group_regex)) (λ _.
    Then (λ refusal. refusal) (Selects settings options) (λ selected.
    Then (λ refusal. refusal) (Plans settings options.find_causes selected) (λ plan.
    Then (λ refusal. refusal) (Works (is_partial options) (length (kinds_of found)) plan) (λ rows.
    TellsAndFinds options.format options.find_causes settings (length (kinds_of found)) rows))))))

-- `run`, step by step: the configuration is read, and then it goes by its settings
abbrev pub RunsSuite : RunOptions → Step Work Verdict Refusal
RunsSuite options = Then Conf (At work_site (ReadsConf options.project)) (RunsBy options)
