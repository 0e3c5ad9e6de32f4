-- Behind which outcomes a run is kept, or may be, or something may have been printed, and which of them come of a program that was
-- not read to its end.
use Rattle.std.specs.Prelude.{⊤, Bool, true, false, Option, Some, Result, Ok, Err}
use Rattle.testr_words.specs.Tasks.{Task, load, ask, run, upgrade}
use Rattle.testr_words.specs.declared.command.Question.TheVariants.{Last}
use Rattle.testr_commands.specs.Placed.{may_have_placed}
use Rattle.testr_commands.specs.Upgrade.{upgrade_may_have_kept}
use Rattle.suite_causes.specs.declared.cause_search.SearchFault.TheVariants as search_fault
use Rattle.suite_plan.specs.declared.count_command.CallRefusal.TheVariants as call
use Rattle.suite_plan.specs.declared.test_listing.ListingRefusal.TheVariants as listing
use Rattle.suite_plan.specs.declared.provisioning.ProvisionRefusal.TheVariants as provision
use Rattle.command_steps.specs.declared.answer.Verdict.{Verdict}
use Rattle.command_steps.specs.declared.answer.Refusal.{Refusal}
use Rattle.command_steps.specs.declared.answer.Refusal.TheVariants.{Keep, Refresh, Tell, Print, Call, Listing, Provision, Report, Suspects, Ran, Search}

-- Whether a load has kept its run for good: it was done, or a step refused that comes behind the keeping.
abbrev pub load_has_kept : Result Verdict Refusal → Bool
load_has_kept (Ok verdict) = true
load_has_kept (Err (Refresh fault)) = true
load_has_kept (Err (Print fault)) = true
load_has_kept outcome = false

-- The same of a run of the project's tests, whose report is made behind the naming, and behind which causes are looked for: so
-- there may have been no memory for it, or that search may have refused.
abbrev pub run_has_kept : Result Verdict Refusal → Bool
run_has_kept (Err (Report fault)) = true
run_has_kept (Err (Suspects fault)) = true
run_has_kept (Err (Ran fault)) = true
run_has_kept (Err (Search fault)) = true
run_has_kept outcome = load_has_kept outcome

-- The same of each task. No other than these keeps a run.
abbrev pub has_kept : Option Task → Result Verdict Refusal → Bool
has_kept (Some (load options names)) = load_has_kept
has_kept (Some (run options)) = run_has_kept
has_kept asked = λ outcome. false

-- Whether a run may be shown that was not before, of a load: it was kept, or a call failed that was to give it the name, or that came
-- behind.
abbrev pub load_may_have_kept : Result Verdict Refusal → Bool
load_may_have_kept (Err (Keep fault)) = may_have_placed fault.call
load_may_have_kept outcome = load_has_kept outcome

-- the same of a run of the project's tests
abbrev pub run_may_have_kept : Result Verdict Refusal → Bool
run_may_have_kept (Err (Keep fault)) = may_have_placed fault.call
run_may_have_kept outcome = run_has_kept outcome

-- The same of each task. No other than these shows a run that was not shown before.
abbrev pub may_have_kept : Option Task → Result Verdict Refusal → Bool
may_have_kept (Some (load options names)) = load_may_have_kept
may_have_kept (Some (run options)) = run_may_have_kept
may_have_kept (Some upgrade) = upgrade_may_have_kept
may_have_kept asked = λ outcome. false

-- whether what is printed is copied as it is read: the last run is, where its packets are asked for
abbrev pub is_copied : Option Task → Bool
is_copied (Some (ask (Last true))) = true
is_copied asked = false

-- Whether something may have been printed: it was done; or a step refused that prints, or that comes behind one that does. So may a
-- read have been of which a copy is printed.
abbrev pub may_have_printed : (copied : Bool) → Result Verdict Refusal → Bool
may_have_printed copied (Ok verdict) = true
may_have_printed copied (Err (Print fault)) = true
may_have_printed copied (Err (Tell fault)) = copied
may_have_printed copied (Err (Suspects fault)) = true
may_have_printed copied (Err (Ran fault)) = true
may_have_printed copied (Err (Search fault)) = true
may_have_printed copied outcome = false

-- the program that lists the tests, the one that tells how many workers there are, the one that provisions instances, or that of a
-- probe was not read to its end
abbrev pub IsChildFault : Result Verdict Refusal → Type 0
IsChildFault (Err (Call call.Child)) = ⊤
IsChildFault (Err (Listing listing.Child)) = ⊤
IsChildFault (Err (Provision provision.Child)) = ⊤
IsChildFault (Err (Search search_fault.Child)) = ⊤
IsChildFault outcome = ⊥
