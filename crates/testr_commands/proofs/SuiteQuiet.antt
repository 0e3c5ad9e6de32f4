-- What the steps of `run` and `list-tests` leave of the folder: all but the steps of its draft leave what reads give and
-- what a stop leaves.
use Rattle.std.proofs.Common.{◌≡◌, ℕ, zero, suc, Bool, true, false, Option, None, Some, List, Result, Ok, Err}
use Rattle.edge_io.specs.Disk.{Folder}
use Rattle.edge_io.specs.Seen.{Seen}
use Rattle.edge_io.specs.Steps.{Goes}
use Rattle.testr_conf.specs.Settings.{Settings}
use Rattle.command_steps.specs.Outside.{Work, work_folder, work_site, work_spawner}
use Rattle.command_steps.specs.Perhaps.{Perhaps, not_asked, did, refused}
use Rattle.testr_commands.specs.RunSuite.{ListsSuite}
use Rattle.command_steps.specs.Selecting.{UsesCalled, UsesAsked, CountsWorkers, Selects, Plans}
use Rattle.command_steps.specs.Steps.{Step, Gives}
use Rattle.testr_words.specs.Suites.{ListOptions, RunOptions}
use Rattle.command_steps.specs.declared.answer.Refusal.{Refusal}
use Rattle.command_steps.specs.declared.test_selection.Selected.{Selected}
use Rattle.command_steps.proofs.Resting.{KeepsReads, rests_same, rests_of_stays}
use Rattle.testr_commands.proofs.ChainLemmas.{IsQuiet, Quiet, then_quiet, LeavesPart, then_leaves}
use Rattle.testr_commands.proofs.StepLaws.{still_quiet}

abbrev pub all : Work → Work
all w = w

pub beside_quiet : (a b : Work) → b.folder ≡ a.folder → IsQuiet a b
beside_quiet a b same = rests_same a.folder.told b.folder.told (λ i. (same i).told)

pub site_quiet : (a b : Work) → b ≡ work_site.put a b.site → IsQuiet a b
site_quiet a b rest = beside_quiet a b (λ i. (rest i).folder)

pub spawner_quiet : (a b : Work) → b ≡ work_spawner.put a b.spawner → IsQuiet a b
spawner_quiet a b rest = beside_quiet a b (λ i. (rest i).folder)

value_quiet : {A : Type 0} {value : A} (a b : Work) (result : Result A Refusal) → Gives value a b result → IsQuiet a b
value_quiet a b result gives = still_quiet a b gives.same

-- a step of the folder that is done where it is asked for
perhaps_rests : {X A E : Type 0} {asked : Option X} {step : X → Step (Seen Folder) A E} → ((x : X) (a b : Seen Folder) (result : Result A E) → step x a b result → Goes a.told b.told KeepsReads) → (a b : Seen Folder) (result : Result (Option A) E) → Perhaps asked step a b result → Goes a.told b.told KeepsReads
perhaps_rests rests a b result (not_asked none is same) = rests_same a.told b.told (λ i. (same i).told)
perhaps_rests rests a b result (did x value asked is step) = rests x a b (Ok value) step
perhaps_rests rests a b result (refused x fault asked is step) = rests x a b (Err fault) step

called_quiet : (called : Option ℕ) → Quiet all (UsesCalled called)
called_quiet (Some (suc less)) = value_quiet
called_quiet (Some zero) = then_quiet all (λ a b r s. site_quiet a b s.rest) (λ number. value_quiet)
called_quiet None = then_quiet all (λ a b r s. site_quiet a b s.rest) (λ number. value_quiet)

asked_quiet : (settings : Settings) (asked : ℕ) → Quiet all (UsesAsked settings asked)
asked_quiet settings (suc less) = value_quiet
asked_quiet settings zero = then_quiet all (λ a b r s. spawner_quiet a b s.rest) called_quiet

workers_quiet : (settings : Settings) (parallel : Bool) (asked : ℕ) → Quiet all (CountsWorkers settings parallel asked)
workers_quiet settings false asked = value_quiet
workers_quiet settings true asked = asked_quiet settings asked

pub select_quiet : (settings : Settings) (options : RunOptions) → Quiet all (Selects settings options)
select_quiet settings options =
    then_quiet all (λ a b r s. site_quiet a b s.rest) (λ listed.
    then_quiet all (λ a b r s. site_quiet a b s.rest) (λ further.
    then_quiet all (λ a b r s. perhaps_rests (λ _ x y found step. rests_of_stays x.told y.told step.same) a.folder b.folder r s.at) (λ failing.
    then_quiet all (workers_quiet settings options.parallel options.concurrency) (λ workers.
    then_quiet all (λ a b r s. spawner_quiet a b s.rest) (λ listing.
    then_quiet all (λ a b r s. still_quiet a b s.same) (λ ids.
    value_quiet))))))

pub plan_quiet : (settings : Settings) (asked : Bool) (selected : Selected) → Quiet all (Plans settings asked selected)
plan_quiet settings asked selected =
    then_quiet all (λ a b r s. perhaps_rests (λ _ x y found step. rests_of_stays x.told y.told step.same) a.folder b.folder r s.at) (λ times.
    then_quiet all (λ a b r s. still_quiet a b s.same) (λ shares.
    then_quiet all (λ a b r s. still_quiet a b s.same) (λ _.
    then_quiet all (λ a b r s. still_quiet a b s.same) (λ jobs.
    then_quiet all (λ a b r s. still_quiet a b s.same) (λ _.
    value_quiet)))))

-- ---- steps that leave the folder as it is

pub list_same : (options : ListOptions) → LeavesPart work_folder.of (ListsSuite options)
list_same options =
    then_leaves work_folder.of (λ a b r s i. (s.rest i).folder) (λ settings.
    then_leaves work_folder.of (λ a b r s i. (s.same i).folder) (λ _.
    then_leaves work_folder.of (λ a b r s i. (s.rest i).folder) (λ further.
    then_leaves work_folder.of (λ a b r s i. (s.rest i).folder) (λ ids.
    then_leaves work_folder.of (λ a b r s i. (s.same i).folder) (λ text.
    then_leaves work_folder.of (λ a b r s i. (s.rest i).folder) (λ _ a b r s i.
    (s.same i).folder))))))
