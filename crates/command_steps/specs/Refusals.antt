-- The refusals, each of one step, with its status and its line, which are that step's (docs/COMMANDS.md, "Refusals").
use Rattle.std.specs.Prelude.{codes, ℕ, Option, None, Some, List, [], ◌++◌, Result, Ok, Err}
use Rattle.run_shelf.specs.declared.faults.InitFault.TheVariants as init_fault
use Rattle.run_shelf.specs.declared.faults.OpenFault.TheVariants as open_fault
use Rattle.command_steps.specs.Outside.{Place, in_folder, in_site, in_spawner, in_input, in_out}
use Rattle.command_steps.specs.declared.usage.UsageFault.{UsageFault}
use Rattle.command_steps.specs.declared.usage.UsageFault.TheVariants.{Words}
use Rattle.command_steps.specs.Store.{init_exit_status, init_text, open_exit_status, open_text, runs_text, keep_text}
use Rattle.command_steps.specs.Recording.{record_exit_status, record_text}
use Rattle.command_steps.specs.Reporting.{memory_text, print_text}
use Rattle.command_steps.specs.Told.{tell_exit_status, tell_text}
use Rattle.command_steps.specs.SuiteTexts.{conf_exit_status, conf_text, pattern_exit_status, pattern_text, list_exit_status, list_text, bad_line_text, times_exit_status, times_text, call_exit_status, call_said, call_text, table_exit_status, table_text, listing_exit_status, listing_said, listing_refusal_text, job_exit_status, job_text, start_exit_status, start_text, lanes_exit_status, lanes_text, search_exit_status, search_text, long_id_text}
use Rattle.command_steps.specs.Instances.{provision_code, provision_said, provision_text}
use Rattle.command_steps.specs.Verdicts.{verdict_exit_status}
use Rattle.suite_causes.specs.declared.cause_search.SearchFault.TheVariants as search_fault
use Rattle.suite_plan.specs.declared.count_command.CallRefusal.TheVariants as call
use Rattle.suite_plan.specs.declared.conf_file.ConfRefusal.TheVariants as conf
use Rattle.suite_plan.specs.declared.test_listing.ListingRefusal.TheVariants as listing
use Rattle.suite_plan.specs.declared.load_list.ListRefusal.TheVariants as load_list
use Rattle.suite_plan.specs.declared.processors.TableRefusal.TheVariants as table
use Rattle.suite_plan.specs.declared.provisioning.ProvisionRefusal.TheVariants as provision
use Rattle.suite_run.specs.declared.lane_recorder.LanesRefusal.TheVariants as lanes
use Rattle.suite_run.specs.declared.lane_starter.StartRefusal.TheVariants as start
use Rattle.command_steps.specs.declared.input_recorder.RecordFault.TheVariants as record_fault
use Rattle.command_steps.specs.declared.times_file.TimesRefusal.TheVariants as times_file
use Rattle.command_steps.specs.declared.question_answers.TellFault.TheVariants as tell_fault
use Rattle.old_upgrade.specs.declared.faults.UpgradeFault.TheVariants as upgrade_fault
use Rattle.command_steps.specs.Upgrading.{upgrade_exit_status, upgrade_text}
use Rattle.command_steps.specs.declared.answer.Verdict.{Verdict}
use Rattle.command_steps.specs.declared.answer.Refusal.{Refusal}
use Rattle.command_steps.specs.declared.answer.Refusal.TheVariants.{Usage, Init, Open, Runs, Record, Memory, Keep, Refresh, Tell, Print, Conf, Pattern, LoadList, PatternLine, TimesFile, Call, Table, Listing, Provision, Job, Start, Lanes, Report, Suspects, Ran, Search, LongId, Upgrade}

-- the exit status of a refusal: 2 for wrong usage, 3 for what a command does not take, 4 where a call failed, 5 where
-- memory was wanting
abbrev pub refusal_exit_status : Refusal → ℕ
refusal_exit_status (Usage fault) = 2
refusal_exit_status (Init fault) = init_exit_status fault
refusal_exit_status (Open fault) = open_exit_status fault
refusal_exit_status (Runs fault) = 3
refusal_exit_status (Record fault) = record_exit_status fault
refusal_exit_status (Memory fault) = 5
refusal_exit_status (Keep fault) = 4
refusal_exit_status (Refresh fault) = tell_exit_status fault
refusal_exit_status (Tell fault) = tell_exit_status fault
refusal_exit_status (Print fault) = 4
refusal_exit_status (Conf fault) = conf_exit_status fault
refusal_exit_status (Pattern fault) = pattern_exit_status fault
refusal_exit_status (LoadList fault) = list_exit_status fault
refusal_exit_status (PatternLine line) = 3
refusal_exit_status (TimesFile fault) = times_exit_status fault
refusal_exit_status (Call fault) = call_exit_status fault
refusal_exit_status (Table fault) = table_exit_status fault
refusal_exit_status (Listing fault) = listing_exit_status fault
refusal_exit_status (Provision fault) = provision_code fault
refusal_exit_status (LongId fault) = 3
refusal_exit_status (Job fault) = job_exit_status fault
refusal_exit_status (Start fault) = start_exit_status fault
refusal_exit_status (Lanes fault) = lanes_exit_status fault
refusal_exit_status (Report fault) = 5
refusal_exit_status (Suspects fault) = 5
refusal_exit_status (Ran fault) = tell_exit_status fault
refusal_exit_status (Search fault) = search_exit_status fault
refusal_exit_status (Upgrade fault) = upgrade_exit_status fault

-- the line where the words are no command
abbrev pub usage_text : UsageFault → List ℕ
usage_text Words = codes "testr: wrong usage\n"

-- the line that tells of a refusal, with its newline: that of the step that refuses
abbrev pub refusal_line : Refusal → List ℕ
refusal_line (Usage fault) = usage_text fault
refusal_line (Init fault) = init_text fault
refusal_line (Open fault) = open_text fault
refusal_line (Runs fault) = runs_text fault
refusal_line (Record fault) = record_text fault
refusal_line (Memory fault) = memory_text
refusal_line (Keep fault) = keep_text
refusal_line (Refresh fault) = tell_text fault
refusal_line (Tell fault) = tell_text fault
refusal_line (Print fault) = print_text
refusal_line (Conf fault) = conf_text fault
refusal_line (Pattern fault) = pattern_text fault
refusal_line (LoadList fault) = list_text fault
refusal_line (PatternLine line) = bad_line_text line
refusal_line (TimesFile fault) = times_text fault
refusal_line (Call fault) = call_text fault
refusal_line (Table fault) = table_text fault
refusal_line (Listing fault) = listing_refusal_text fault
refusal_line (Provision fault) = provision_text fault
refusal_line (LongId fault) = long_id_text
refusal_line (Job fault) = job_text fault
refusal_line (Start fault) = start_text fault
refusal_line (Lanes fault) = lanes_text fault
refusal_line (Report fault) = memory_text
refusal_line (Suspects fault) = memory_text
refusal_line (Ran fault) = tell_text fault
refusal_line (Search fault) = search_text fault
refusal_line (Upgrade fault) = upgrade_text fault

-- what the program said that a refusal is of, where it failed
abbrev pub refusal_said : Refusal → List ℕ
refusal_said (Call fault) = call_said fault
refusal_said (Listing fault) = listing_said fault
refusal_said (Provision fault) = provision_said fault
refusal_said refusal = []

-- what is told of a refusal: that, and the line
abbrev pub refusal_text : Refusal → List ℕ
refusal_text refusal = refusal_said refusal ++ refusal_line refusal

-- the part whose call failed, where the refusal is a fault
abbrev pub fault_place_of : Refusal → Option Place
fault_place_of (Init (init_fault.Shelf call)) = Some in_folder
fault_place_of (Open (open_fault.Shelf call)) = Some in_folder
fault_place_of (Record (record_fault.Shelf call)) = Some in_folder
fault_place_of (Record record_fault.Input) = Some in_input
fault_place_of (Record record_fault.Site) = Some in_site
fault_place_of (Keep fault) = Some in_folder
fault_place_of (Refresh tell_fault.Shelf) = Some in_folder
fault_place_of (Tell tell_fault.Shelf) = Some in_folder
fault_place_of (Print fault) = Some in_out
fault_place_of (Conf conf.Site) = Some in_site
fault_place_of (LoadList load_list.Site) = Some in_site
fault_place_of (TimesFile times_file.Site) = Some in_site
fault_place_of (Call call.Spawn) = Some in_spawner
fault_place_of (Table table.Site) = Some in_site
fault_place_of (Listing listing.Spawn) = Some in_spawner
fault_place_of (Provision provision.Spawn) = Some in_spawner
fault_place_of (Start start.Spawn) = Some in_spawner
fault_place_of (Lanes (lanes.Shelf which)) = Some in_folder
fault_place_of (Ran tell_fault.Shelf) = Some in_folder
fault_place_of (Search search_fault.Spawn) = Some in_spawner
fault_place_of (Upgrade (upgrade_fault.Shelf call)) = Some in_folder
fault_place_of refusal = None

-- the exit status of an outcome: that of its verdict, or else that of the refusal
abbrev pub exit_status : Result Verdict Refusal → ℕ
exit_status (Ok verdict) = verdict_exit_status verdict
exit_status (Err refusal) = refusal_exit_status refusal

-- the part whose call failed, where the outcome is such a fault
abbrev pub fault_place_in : Result Verdict Refusal → Option Place
fault_place_in (Ok verdict) = None
fault_place_in (Err refusal) = fault_place_of refusal
