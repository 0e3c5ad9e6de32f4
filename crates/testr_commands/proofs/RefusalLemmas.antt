-- What is true of each refusal, by its kind alone.
use Rattle.std.proofs.Common.{◌≡◌, ℕ, ◌≤◌, None, Some, Err, cond, refl, arith}
use Rattle.std.specs.Prelude.{⊤}
use Rattle.run_shelf.specs.Faults.{init_failed, open_failed}
use Rattle.run_shelf.specs.declared.faults.InitFault.{InitFault}
use Rattle.run_shelf.specs.declared.faults.InitFault.TheVariants as init_fault
use Rattle.run_shelf.specs.declared.faults.OpenFault.{OpenFault}
use Rattle.run_shelf.specs.declared.faults.OpenFault.TheVariants as open_fault
use Rattle.suite_causes.specs.Searching.{search_failed}
use Rattle.suite_causes.specs.declared.cause_search.SearchFault.{SearchFault}
use Rattle.suite_causes.specs.declared.cause_search.SearchFault.TheVariants as search_fault
use Rattle.suite_plan.specs.Calling.{call_failed}
use Rattle.suite_plan.specs.ConfFile.{conf_failed}
use Rattle.suite_plan.specs.Listing.{listing_failed}
use Rattle.suite_plan.specs.LoadList.{list_failed}
use Rattle.suite_plan.specs.Processors.{table_failed}
use Rattle.suite_plan.specs.declared.count_command.CallRefusal.{CallRefusal}
use Rattle.suite_plan.specs.declared.count_command.CallRefusal.TheVariants as call
use Rattle.suite_plan.specs.declared.conf_file.ConfRefusal.{ConfRefusal}
use Rattle.suite_plan.specs.declared.conf_file.ConfRefusal.TheVariants as conf
use Rattle.suite_plan.specs.declared.test_listing.ListingRefusal.{ListingRefusal}
use Rattle.suite_plan.specs.declared.test_listing.ListingRefusal.TheVariants as listing
use Rattle.suite_plan.specs.declared.load_list.ListRefusal.{ListRefusal}
use Rattle.suite_plan.specs.declared.load_list.ListRefusal.TheVariants as load_list
use Rattle.suite_plan.specs.declared.patterns.PatternRefusal.TheVariants as pattern
use Rattle.suite_plan.specs.declared.processors.TableRefusal.{TableRefusal}
use Rattle.suite_plan.specs.declared.processors.TableRefusal.TheVariants as table
use Rattle.suite_plan.specs.declared.provisioning.ProvisionRefusal.TheVariants as provision
use Rattle.suite_run.specs.Recording.{lanes_failed}
use Rattle.suite_run.specs.Starting.{start_failed}
use Rattle.suite_run.specs.declared.lane_recorder.LanesRefusal.{LanesRefusal}
use Rattle.suite_run.specs.declared.lane_recorder.LanesRefusal.TheVariants as lanes
use Rattle.suite_run.specs.declared.lane_starter.StartRefusal.{StartRefusal}
use Rattle.suite_run.specs.declared.lane_starter.StartRefusal.TheVariants as start
use Rattle.testr_conf.specs.declared.fault.JobFault.TheVariants as job
use Rattle.testr_commands.specs.Answer.{IsChildFault}
use Rattle.command_steps.specs.Refusals.{refusal_exit_status, fault_place_of}
use Rattle.command_steps.specs.Outside.{Work, Place, in_folder, in_site, in_spawner, in_input, in_out, RisesAt, SomeRose, of_folder, of_site, of_spawner, of_input, of_out}
use Rattle.command_steps.specs.Told.{fault_fails}
use Rattle.command_steps.specs.declared.answer.Refusal.{Refusal}
use Rattle.command_steps.specs.TimesFile.{times_failed}
use Rattle.command_steps.specs.declared.times_file.TimesRefusal.{TimesRefusal}
use Rattle.command_steps.specs.declared.times_file.TimesRefusal.TheVariants as times_file
use Rattle.command_steps.specs.declared.answer.Refusal.TheVariants.{Usage, Init, Open, Record, Keep, Refresh, Tell, Print, Conf, Pattern, LoadList, TimesFile, Call, Table, Listing, Provision, Job, Start, Lanes, Ran, Search, Upgrade}
use Rattle.command_steps.specs.declared.input_recorder.RecordFault.TheVariants as record_fault
use Rattle.old_upgrade.specs.declared.faults.UpgradeFault.TheVariants as upgrade_fault
use Rattle.command_steps.specs.declared.question_answers.TellFault.{TellFault}
use Rattle.command_steps.specs.declared.question_answers.TellFault.TheVariants as tell_fault

-- it is not that of the words
abbrev pub IsNoUsage : Refusal → Type 0
IsNoUsage (Usage fault) = ⊥
IsNoUsage refusal = ⊤

-- the status of such a refusal
pub record IsCode (code : ℕ) : Type 0 where
  pub least : 3 ≤ code
  pub most : code ≤ 5

pub codes : (r : Refusal) → IsNoUsage r → IsCode (refusal_exit_status r)
codes (Usage fault) named = absurd named
codes (Init init_fault.Exists) named = record { least = omega arith; most = omega arith }
codes (Open open_fault.NoStore) named = record { least = omega arith; most = omega arith }
codes (Record record_fault.Input) named = record { least = omega arith; most = omega arith }
codes (Refresh tell_fault.Shelf) named = record { least = omega arith; most = omega arith }
codes (Tell tell_fault.Shelf) named = record { least = omega arith; most = omega arith }
codes (Conf conf.Site) named = record { least = omega arith; most = omega arith }
codes (Pattern pattern.NoMemory) named = record { least = omega arith; most = omega arith }
codes (LoadList load_list.Site) named = record { least = omega arith; most = omega arith }
codes (TimesFile times_file.Site) named = record { least = omega arith; most = omega arith }
codes (Call call.Spawn) named = record { least = omega arith; most = omega arith }
codes (Table table.Site) named = record { least = omega arith; most = omega arith }
codes (Listing listing.Spawn) named = record { least = omega arith; most = omega arith }
codes (Provision provision.Spawn) named = record { least = omega arith; most = omega arith }
codes (Job job.NoMemory) named = record { least = omega arith; most = omega arith }
codes (Start start.Spawn) named = record { least = omega arith; most = omega arith }
codes (Lanes lanes.NoMemory) named = record { least = omega arith; most = omega arith }
codes (Ran tell_fault.Shelf) named = record { least = omega arith; most = omega arith }
codes (Search search_fault.Spawn) named = record { least = omega arith; most = omega arith }
codes (Upgrade upgrade_fault.NoStore) named = record { least = omega arith; most = omega arith }
codes refusal named = record { least = omega arith; most = omega arith }

-- a part failed, or a child
pub data IsFault (r : Refusal) : Type 0 where
  of_part : (place : Place) → fault_place_of r ≡ Some place → IsFault r
  of_child : IsChildFault (Err r) → IsFault r

pub faults : (r : Refusal) → refusal_exit_status r ≡ 4 → IsFault r
faults (Init (init_fault.Shelf call)) four = of_part in_folder refl
faults (Open (open_fault.Shelf call)) four = of_part in_folder refl
faults (Record (record_fault.Shelf call)) four = of_part in_folder refl
faults (Record record_fault.Input) four = of_part in_input refl
faults (Record record_fault.Site) four = of_part in_site refl
faults (Keep fault) four = of_part in_folder refl
faults (Refresh tell_fault.Shelf) four = of_part in_folder refl
faults (Tell tell_fault.Shelf) four = of_part in_folder refl
faults (Print fault) four = of_part in_out refl
faults (Conf conf.Site) four = of_part in_site refl
faults (Pattern pattern.NoMemory) four = absurd (omega (arith, four))
faults (LoadList load_list.Site) four = of_part in_site refl
faults (TimesFile times_file.Site) four = of_part in_site refl
faults (Call call.Spawn) four = of_part in_spawner refl
faults (Call call.Child) four = of_child tt
faults (Table table.Site) four = of_part in_site refl
faults (Listing listing.Spawn) four = of_part in_spawner refl
faults (Listing listing.Child) four = of_child tt
faults (Provision provision.Spawn) four = of_part in_spawner refl
faults (Provision provision.Child) four = of_child tt
faults (Job job.NoMemory) four = absurd (omega (arith, four))
faults (Start start.Spawn) four = of_part in_spawner refl
faults (Lanes (lanes.Shelf which)) four = of_part in_folder refl
faults (Ran tell_fault.Shelf) four = of_part in_folder refl
faults (Search search_fault.Spawn) four = of_part in_spawner refl
faults (Search search_fault.Child) four = of_child tt
faults (Upgrade (upgrade_fault.Shelf call)) four = of_part in_folder refl
faults refusal four = absurd (omega (arith, four))

pub some_rose : (place : Place) (a b : Work) → RisesAt (Some place) a b → SomeRose a b
some_rose in_folder a b rises = of_folder rises.0
some_rose in_site a b rises = of_site rises.0
some_rose in_spawner a b rises = of_spawner rises.0
some_rose in_input a b rises = of_input rises.0
some_rose in_out a b rises = of_out rises.0

-- ---- of which part, where it is one's fault

pub init_place : (fault : InitFault) → fault_place_of (Init fault) ≡ cond (init_failed {T = Unit {0}} (Err fault)) (Some in_folder) None
init_place init_fault.Exists = refl
init_place fault = refl

pub open_place : (T : Type 0) (fault : OpenFault) → fault_place_of (Open fault) ≡ cond (open_failed {T = T} (Err fault)) (Some in_folder) None
open_place T open_fault.NoStore = refl
open_place T fault = refl

pub tell_place : (fault : TellFault) → fault_place_of (Tell fault) ≡ cond (fault_fails fault) (Some in_folder) None
tell_place tell_fault.Shelf = refl
tell_place tell_fault.NoMemory = refl

pub refresh_place : (fault : TellFault) → fault_place_of (Refresh fault) ≡ cond (fault_fails fault) (Some in_folder) None
refresh_place tell_fault.Shelf = refl
refresh_place tell_fault.NoMemory = refl

pub ran_place : (fault : TellFault) → fault_place_of (Ran fault) ≡ cond (fault_fails fault) (Some in_folder) None
ran_place tell_fault.Shelf = refl
ran_place tell_fault.NoMemory = refl

pub search_place : (T : Type 0) (fault : SearchFault) → fault_place_of (Search fault) ≡ cond (search_failed {T = T} (Err fault)) (Some in_spawner) None
search_place T search_fault.Spawn = refl
search_place T search_fault.Child = refl
search_place T search_fault.NoMemory = refl

pub lanes_place : (T : Type 0) (fault : LanesRefusal) → fault_place_of (Lanes fault) ≡ cond (lanes_failed {T = T} (Err fault)) (Some in_folder) None
lanes_place T lanes.NoMemory = refl
lanes_place T fault = refl

pub conf_place : (T : Type 0) (fault : ConfRefusal) → fault_place_of (Conf fault) ≡ cond (conf_failed {T = T} (Err fault)) (Some in_site) None
conf_place T conf.Site = refl
conf_place T fault = refl

pub list_place : (T : Type 0) (fault : ListRefusal) → fault_place_of (LoadList fault) ≡ cond (list_failed {T = T} (Err fault)) (Some in_site) None
list_place T load_list.Site = refl
list_place T fault = refl

pub times_place : (T : Type 0) (fault : TimesRefusal) → fault_place_of (TimesFile fault) ≡ cond (times_failed {T = T} (Err fault)) (Some in_site) None
times_place T times_file.Site = refl
times_place T fault = refl

pub table_place : (T : Type 0) (fault : TableRefusal) → fault_place_of (Table fault) ≡ cond (table_failed {T = T} (Err fault)) (Some in_site) None
table_place T table.Site = refl
table_place T fault = refl

pub call_place : (fault : CallRefusal) → fault_place_of (Call fault) ≡ cond (call_failed (Err fault)) (Some in_spawner) None
call_place call.Spawn = refl
call_place fault = refl

pub listing_place : (fault : ListingRefusal) → fault_place_of (Listing fault) ≡ cond (listing_failed (Err fault)) (Some in_spawner) None
listing_place listing.Spawn = refl
listing_place fault = refl

pub start_place : (T : Type 0) (fault : StartRefusal) → fault_place_of (Start fault) ≡ cond (start_failed {T = T} (Err fault)) (Some in_spawner) None
start_place T start.Spawn = refl
start_place T start.NoMemory = refl
