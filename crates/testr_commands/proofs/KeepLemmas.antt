-- The runs that a folder showed are shown still, where no run may have been kept.
use Rattle.std.proofs.Common.{◌≡◌, inl, inr, ℕ, ◌<◌, Bool, true, false, None, Some, Result, Ok, Err, List, refl, sym, ap, subst, ◌∙◌, arith}
use Rattle.edge_io.specs.Disk.{Files, Disk, Folder, put}
use Rattle.edge_io.specs.Seen.{Seen}
use Rattle.edge_io.specs.Steps.{Goes, Settled}
use Rattle.edge_io.proofs.Going.{goes_then, goes_weaker}
use Rattle.outcome_fold.specs.declared.row.Row.{Row}
use Rattle.run_shelf.specs.declared.faults.ShelfCall.{ShelfCall}
use Rattle.run_shelf.specs.declared.faults.ShelfCall.TheVariants.{Names, Length, ReadAt, StartDraft, Append, SyncDraft, Publish, SyncFolder}
use Rattle.run_shelf.specs.declared.faults.InitFault.{InitFault}
use Rattle.run_shelf.specs.declared.faults.InitFault.TheVariants as init_fault
use Rattle.run_shelf.specs.Drafts.{OfDraft, PlaceFails}
use Rattle.run_shelf.specs.Images.{MakesRepository}
use Rattle.run_shelf.specs.Outcomes.{InitFails, InitFailsAt}
use Rattle.run_shelf.specs.Repository.{Run, Shows, IsRepository, run_at, run_name, full_name, partial_name, most_runs, format_name, format_bytes, HasFormat}
use Rattle.run_shelf.proofs.BaseLemmas.{base_first, base_nothing, same_run}
use Rattle.run_shelf.proofs.NameLemmas.{format_differs}
use Rattle.run_shelf.proofs.RunLemmas.{put_here, put_other}
use Rattle.command_steps.specs.Steps.{Step, Then, stops, goes_on, Gives, At}
use Rattle.command_steps.specs.Outside.{Work, work_folder, work_out}
use Rattle.testr_words.specs.Tasks.{load}
use Rattle.command_steps.specs.Runs.{KeepsRuns, KeepsRepository, KeepsFiles}
use Rattle.command_steps.specs.Store.{Makes, Keeps}
use Rattle.command_steps.specs.Refreshing.{Refreshes}
use Rattle.command_steps.specs.Reporting.{Prints}
use Rattle.testr_commands.specs.Init.{Inits}
use Rattle.testr_commands.specs.Load.{Loads}
use Rattle.testr_commands.specs.Answer.{may_have_kept}
use Rattle.testr_commands.specs.Placed.{may_have_placed}
use Rattle.command_steps.specs.declared.answer.Verdict.{Verdict}
use Rattle.command_steps.specs.declared.answer.Refusal.{Refusal}
use Rattle.command_steps.specs.declared.answer.Refusal.TheVariants.{Keep, Refresh, Print}
use Rattle.command_steps.specs.declared.store.KeepFault.{KeepFault}
use Rattle.command_steps.specs.declared.question_answers.TellFault.{TellFault}
use Rattle.command_steps.proofs.Resting.{KeepsReads}
use Rattle.testr_commands.proofs.ChainLemmas.{Quiet, gives_not}
use Rattle.testr_commands.proofs.StepLaws.{still_quiet, open_quiet, begin_quiet, record_quiet}
use Rattle.testr_words.specs.Suites.{LoadOptions}

no_format : (files : Files) → files format_name ≡ None → HasFormat files → ⊥
no_format files none (inl format) = cc
no_format files none (inr format) = cc

pub files_keep : (s t : Folder) → KeepsFiles s t → KeepsRuns s t
files_keep s t same runs shows = subst (λ (files : Files). Shows files runs) (sym same) shows

pub keeps_runs : (s t : Folder) → KeepsReads s t → KeepsRuns s t
keeps_runs s t rests = files_keep s t rests.files

-- ---- `init`

abbrev with_format : Files → Files
with_format files = put files format_name format_bytes

-- `format` is the name of no run
beside_format : (files : Files) (runs : List Run) → files format_name ≡ None → Shows files runs → Shows (with_format files) runs
beside_format files runs absent shows = record { few = shows.few; each = λ number few. still number few ∙ shows.each number few }
  where
    stays : (number : ℕ) (partial : Bool) → number < most_runs → with_format files (run_name number partial) ≡ files (run_name number partial)
    stays number partial few = put_other files format_name format_bytes (run_name number partial) (λ same. format_differs number partial (omega (arith, few)) (sym same))

    still : (number : ℕ) → number < most_runs → run_at (with_format files) number ≡ run_at files number
    still number few =
        same_run files (with_format files) (base_first (with_format files) (put_here files format_name format_bytes format_name refl) ∙ sym (base_nothing files absent)) number (stays number false few) (stays number true few)

format_keeps : (s t : Folder) → s.disk.published format_name ≡ None → t.disk.published ≡ with_format s.disk.published → KeepsRuns s t
format_keeps s t absent same runs shows = subst (λ (files : Files). Shows files runs) (sym same) (beside_format s.disk.published runs absent shows)

settled_keeps : (s t : Folder) → Settled s t → KeepsRuns s t
settled_keeps s t is = files_keep s t (ap (λ (f : Folder). f.disk.published) is)

init_fails_keep : (call : ShelfCall) (s t : Folder) → InitFailsAt call s t → KeepsRuns s t
init_fails_keep Names s t fails = absurd fails
init_fails_keep Length s t fails = settled_keeps s t fails
init_fails_keep ReadAt s t fails = absurd fails
init_fails_keep StartDraft s t fails = files_keep s t (ap (λ (d : Disk). d.published) fails.disk)
init_fails_keep Append s t fails = files_keep s t (ap (λ (d : Disk). d.published) fails.disk)
init_fails_keep SyncDraft s t fails = files_keep s t (ap (λ (d : Disk). d.published) fails.disk)
init_fails_keep Publish s t (inl lacks) = files_keep s t (ap (λ (d : Disk). d.published) lacks.disk)
init_fails_keep Publish s t (inr there) = format_keeps s t there.absent there.reads
init_fails_keep SyncFolder s t (inl stays) = files_keep s t (ap (λ (f : Folder). f.disk.published) stays)
init_fails_keep SyncFolder s t (inr there) = format_keeps s t there.absent there.reads

make_keeps : (a b : Seen Folder) (result : Result (Unit {0}) InitFault) → Makes a b result → Goes a.told b.told KeepsRuns
make_keeps a b (Ok done) makes = goes_weaker a.told b.told MakesRepository KeepsRuns makes.made (λ s t made. format_keeps s t made.absent (ap (λ (d : Disk). d.published) made.disk))
make_keeps a b (Err init_fault.Exists) makes = goes_weaker a.told b.told (InitFails init_fault.Exists) KeepsRuns makes.refused (λ s t there. settled_keeps s t there.1)
make_keeps a b (Err (init_fault.Shelf call)) makes = goes_weaker a.told b.told (InitFails (init_fault.Shelf call)) KeepsRuns makes.refused (init_fails_keep call)

pub init_keeps : (a b : Seen Folder) (outcome : Result Verdict Refusal) → Inits a b outcome → Goes a.told b.told KeepsRuns
init_keeps a b outcome (stops fault is step) = make_keeps a b (Err fault) step
init_keeps a b outcome (goes_on v m step gives) = subst (λ (f : Seen Folder). Goes a.told f.told KeepsRuns) (sym gives.same) (make_keeps a m (Ok v) step)

-- where `init` puts `format` there was none, so no repository
lacks_format : (s t : Folder) → s.disk.published format_name ≡ None → KeepsRepository s t
lacks_format s t absent repository = absurd (no_format s.disk.published absent repository.format)

same_repository : (s t : Folder) → t.disk.published ≡ s.disk.published → KeepsRepository s t
same_repository s t same repository = subst IsRepository (sym same) repository

settled_repository : (s t : Folder) → Settled s t → KeepsRepository s t
settled_repository s t is = same_repository s t (ap (λ (f : Folder). f.disk.published) is)

init_fails_repository : (call : ShelfCall) (s t : Folder) → InitFailsAt call s t → KeepsRepository s t
init_fails_repository Names s t fails = absurd fails
init_fails_repository Length s t fails = settled_repository s t fails
init_fails_repository ReadAt s t fails = absurd fails
init_fails_repository StartDraft s t fails = lacks_format s t fails.absent
init_fails_repository Append s t fails = lacks_format s t fails.absent
init_fails_repository SyncDraft s t fails = lacks_format s t fails.absent
init_fails_repository Publish s t (inl lacks) = lacks_format s t lacks.absent
init_fails_repository Publish s t (inr there) = lacks_format s t there.absent
init_fails_repository SyncFolder s t (inl stays) = same_repository s t (ap (λ (f : Folder). f.disk.published) stays)
init_fails_repository SyncFolder s t (inr there) = lacks_format s t there.absent

make_repository : (a b : Seen Folder) (result : Result (Unit {0}) InitFault) → Makes a b result → Goes a.told b.told KeepsRepository
make_repository a b (Ok done) makes = goes_weaker a.told b.told MakesRepository KeepsRepository makes.made (λ s t made. lacks_format s t made.absent)
make_repository a b (Err init_fault.Exists) makes = goes_weaker a.told b.told (InitFails init_fault.Exists) KeepsRepository makes.refused (λ s t there. settled_repository s t there.1)
make_repository a b (Err (init_fault.Shelf call)) makes = goes_weaker a.told b.told (InitFails (init_fault.Shelf call)) KeepsRepository makes.refused (init_fails_repository call)

pub init_repository : (a b : Seen Folder) (outcome : Result Verdict Refusal) → Inits a b outcome → Goes a.told b.told KeepsRepository
init_repository a b outcome (stops fault is step) = make_repository a b (Err fault) step
init_repository a b outcome (goes_on v m step gives) = subst (λ (f : Seen Folder). Goes a.told f.told KeepsRepository) (sym gives.same) (make_repository a m (Ok v) step)

-- ---- `load`

pub place_keeps : (name bytes : List ℕ) (call : ShelfCall) (s t : Folder) → PlaceFails name bytes call s t → may_have_placed call ≡ false → KeepsFiles s t
place_keeps name bytes Names s t fails not = absurd fails
place_keeps name bytes Length s t fails not = absurd fails
place_keeps name bytes ReadAt s t fails not = absurd fails
place_keeps name bytes StartDraft s t fails not = absurd fails
place_keeps name bytes Append s t fails not = absurd fails
place_keeps name bytes SyncDraft s t fails not = ap (λ (d : Disk). d.published) fails
place_keeps name bytes Publish s t fails not = cc
place_keeps name bytes SyncFolder s t fails not = cc

abbrev all : Work → Work
all w = w

-- ---- where it refuses, but for what may have kept a run

module _ (may : Refusal → Bool) where
  -- reads of the folder give the same files where it refuses, but for a fault behind the run's name
  abbrev pub KeepsUnless : {A : Type 0} → Step Work A Refusal → Type 0
  KeepsUnless step = (a b : Work) (r : Refusal) → step a b (Err r) → may r ≡ false → Goes a.folder.told b.folder.told KeepsFiles

  pub then_keeps : {A B E : Type 0} {name : E → Refusal} {first : Step Work A E} {second : A → Step Work B Refusal} → Quiet all first → ((v : A) → KeepsUnless (second v)) → KeepsUnless (Then name first second)
  then_keeps quiet rest a b r (stops e is step) not = goes_weaker a.folder.told b.folder.told KeepsReads KeepsFiles (quiet a b (Err e) step) (λ s t rests. rests.files)
  then_keeps quiet rest a b r (goes_on v m done next) not =
      goes_then a.folder.told m.folder.told b.folder.told KeepsReads KeepsFiles KeepsFiles (quiet a m (Ok v) done) (rest v m b r next not) (λ s m t rests files. files ∙ rests.files)

  same_refusal : {A : Type 0} (named r : Refusal) → ◌≡◌ {A = Result A Refusal} (Err r) (Err named) → r ≡ named
  same_refusal named r is = cc

  pub refused_as : {A : Type 0} (named r : Refusal) → ◌≡◌ {A = Result A Refusal} (Err r) (Err named) → may r ≡ may named
  refused_as named r is = ap may (same_refusal named r is)

  pub never : (r : Refusal) → may r ≡ true → may r ≡ false → ⊥
  never r is not = cc

  -- the step that names the run, that of the caches, and what comes behind
  pub named_last : {A : Type 0} (partial : Bool) (number : ℕ) (rows : List Row) (rest : Step Work A Refusal) → ((fault : KeepFault) → may (Keep fault) ≡ may_have_placed fault.call) → ((fault : TellFault) → may (Refresh fault) ≡ true) → ((a b : Work) (r : Refusal) → rest a b (Err r) → may r ≡ true) → KeepsUnless (Then Keep (At work_folder (Keeps partial number)) (λ _. Then Refresh (At work_folder (Refreshes number rows)) (λ _. rest)))
  named_last partial number rows rest placed refreshed late a b r (stops fault is step) not =
      let before = sym (placed fault) ∙ sym (refused_as (Keep fault) r is) ∙ not in
      goes_weaker a.folder.told b.folder.told (OfDraft (λ bytes. PlaceFails (run_name number partial) bytes fault.call)) KeepsFiles step.at.failed (λ s t of. place_keeps (run_name number partial) of.bytes fault.call s t of.does before)
  named_last partial number rows rest placed refreshed late a b r (goes_on _ m step (stops fault is refresh)) not = absurd (never r (refused_as (Refresh fault) r is ∙ refreshed fault) not)
  named_last partial number rows rest placed refreshed late a b r (goes_on _ m step (goes_on _ m2 refresh next)) not = absurd (never r (late m2 b r next) not)

module _ (options : LoadOptions) (names : List (List ℕ)) where
  abbrev may_have : Refusal → Bool
  may_have r = may_have_kept (Some (load options names)) (Err r)

  printed_late : (text : List ℕ) (verdict : Verdict) (a b : Work) (r : Refusal) → Then Print (At work_out (Prints text)) (λ _. Gives verdict) a b (Err r) → may_have r ≡ true
  printed_late text verdict a b r (stops fault is printed) = refused_as may_have (Print fault) r is
  printed_late text verdict a b r (goes_on _ m printed gives) = absurd (gives_not m b r gives)

  pub load_keeps : KeepsUnless may_have (Loads options names)
  load_keeps =
      then_keeps may_have (λ a b r s. open_quiet a b r s.at) (λ found.
      then_keeps may_have (λ a b r s. still_quiet a b s.same) (λ _.
      then_keeps may_have (λ a b r s. begin_quiet a b r s.at) (λ _.
      then_keeps may_have (λ a b r s. record_quiet a b names r s) (λ rows.
      then_keeps may_have (λ a b r s. still_quiet a b s.same) (λ report.
      named_last may_have options.partial _ rows (Then Print (At work_out (Prints report.text)) (λ _. Gives report.verdict)) (λ fault. refl) (λ fault. refl) (printed_late report.text report.verdict))))))
