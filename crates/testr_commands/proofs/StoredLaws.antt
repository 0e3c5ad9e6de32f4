-- A run that was kept stands for good, whatever refuses behind that.
use Rattle.std.proofs.Common.{◌≡◌, ◌⊎◌, inl, inr, Bool, true, false, Option, ℕ, Result, Ok, Err, List, [], length, refl, sym, ap, subst, ◌∙◌}
use Rattle.edge_io.specs.Disk.{Files, Folder, IsImage}
use Rattle.edge_io.specs.Seen.{Seen}
use Rattle.edge_io.specs.Steps.{Goes, Opened, Grown}
use Rattle.edge_io.proofs.Going.{goes_then}
use Rattle.outcome_fold.specs.declared.row.Row.{Row}
use Rattle.packet_codec.specs.declared.event.Event.{Event}
use Rattle.run_shelf.specs.Holds.{kinds_of}
use Rattle.run_shelf.specs.Images.{KeepsRun}
use Rattle.run_shelf.specs.Repository.{Run, run_of, Shows}
use Rattle.run_shelf.specs.Sides.{SameButCaches, KeepsButCaches, PassesButCaches}
use Rattle.run_shelf.specs.declared.found.Found.{Found}
use Rattle.run_shelf.proofs.DraftLemmas.{goes_writes, run_kept}
use Rattle.run_shelf.proofs.SameLemmas.{same_itself}
use Rattle.command_steps.specs.Files.{RecordsSources}
use Rattle.command_steps.specs.Outside.{Work, work_folder}
use Rattle.command_steps.specs.Refreshing.{Refreshes}
use Rattle.command_steps.specs.Reporting.{Report, Reports}
use Rattle.command_steps.specs.Runs.{run_bytes, HasRunAndCaches, AddsRun}
use Rattle.command_steps.specs.Steps.{stops, goes_on, Still, At}
use Rattle.command_steps.specs.Store.{Opens, TakesRun, Begins, Keeps}
use Rattle.command_steps.specs.declared.answer.Refusal.{Refusal}
use Rattle.command_steps.specs.declared.answer.Refusal.TheVariants.{Open, Runs, Keep, Record, Memory}
use Rattle.command_steps.specs.declared.answer.Verdict.{Verdict}
use Rattle.command_steps.specs.declared.question_answers.TellFault.{TellFault}
use Rattle.command_steps.specs.declared.store.RunsFault.{RunsFault}
use Rattle.command_steps.proofs.Resting.{KeepsReads, goes_both, passes_leaves}
use Rattle.command_steps.proofs.SoundLemmas.{kept_beside, shows_more}
use Rattle.testr_words.specs.Suites.{LoadOptions}
use Rattle.testr_commands.specs.Answer.{load_has_kept}
use Rattle.testr_commands.specs.Load.{Loads}
use Rattle.testr_commands.specs.Stored.{StoresLoad}
use Rattle.testr_commands.proofs.SourcesLemmas.{IsRunOf, writes_run}
use Rattle.testr_commands.proofs.StepLaws.{open_quiet}

-- ---- behind a run that was kept, and what the step of the caches did, whether it was done or not

module _ (partial : Bool) (number : ℕ) (events : List Event) where
  abbrev run : Run
  run = run_of partial (run_bytes events)

  -- what reads give, or a stop leaves, then
  left_beside : (s m : Folder) → KeepsRun number run s m → (image : Files) → IsImage m.disk image ⊎ SameButCaches m.disk.published image → HasRunAndCaches s.disk.published number run image
  left_beside s m kept image (inl left) = record { between = image; beside = kept.lasts image left; but = same_itself image }
  left_beside s m kept image (inr same) = record { between = m.disk.published; beside = kept_beside number run s m kept; but = same }

  adds_one : (s m t : Folder) → KeepsRun number run s m → KeepsButCaches m t → PassesButCaches m t → AddsRun partial events s t
  adds_one s m t kept but sides = λ runs shows. (
    shows_more s.disk.published t.disk.published number run runs (left_beside s m kept t.disk.published (inr but)) shows,
    λ image left. shows_more s.disk.published image number run runs (left_beside s m kept image (passes_leaves (λ i. IsImage m.disk i ⊎ SameButCaches m.disk.published i) m t sides (λ i before. inl before) image left)) shows,
  )

  pub kept_adds : (rows : List Row) (a : Option Folder) (b c : Seen Folder) (result : Result (Unit {0}) TellFault) → Refreshes number rows b c result → Goes a b.told (KeepsRun number run) → Goes a c.told (AddsRun partial events)
  kept_adds rows a b c result step kept =
      let others : Goes b.told c.told (λ m t. KeepsButCaches m t × PassesButCaches m t) = goes_both b.told c.told KeepsButCaches PassesButCaches (λ m t. KeepsButCaches m t × PassesButCaches m t) step.others step.any_moment (λ m t p q. (p, q)) in
      goes_then a b.told c.told (KeepsRun number run) (λ m t. KeepsButCaches m t × PassesButCaches m t) (AddsRun partial events) kept others (λ s m t keeps both. adds_one s m t keeps both.0 both.1)

  -- a quiet part before it
  pub adds_through : (a b c : Option Folder) → Goes a b KeepsReads → Goes b c (AddsRun partial events) → Goes a c (AddsRun partial events)
  adds_through a b c quiet adds =
      goes_then a b c KeepsReads (AddsRun partial events) (AddsRun partial events) quiet adds
      (λ s m t rests more. λ runs shows. more runs (subst (λ (files : Files). Shows files runs) (sym rests.files) shows))

-- ---- `load`

module _ (options : LoadOptions) (names : List (List ℕ)) (a b : Work) where
  -- the steps up to the keeping, that of the caches, and what leaves the folder behind it
  stores : (o t g r e k m : Work) (found : Found) (rows : List Row) (report : Report) (result : Result (Unit {0}) TellFault)
      → At work_folder Opens a o (Ok found)
      → Still {E = RunsFault} (TakesRun (length (kinds_of found))) o t (Ok tt)
      → At work_folder Begins t g (Ok tt)
      → RecordsSources names g r (Ok rows)
      → Still (Reports options.format (length (kinds_of found)) [] rows) r e (Ok report)
      → At work_folder (Keeps options.partial (length (kinds_of found))) e k (Ok tt)
      → At work_folder (Refreshes (length (kinds_of found)) rows) k m result
      → b.folder.told ≡ m.folder.told
      → StoresLoad options names a b
  stores o t g r e k m found rows report result opened took begun read told kept refreshed still =
      let number = length (kinds_of found) in
      let input : g.input ≡ a.input = (λ i. (begun.rest i).input) ∙ (λ i. (took.same i).input) ∙ (λ i. (opened.rest i).input) in
      let site : g.site ≡ a.site = (λ i. (begun.rest i).site) ∙ (λ i. (took.same i).site) ∙ (λ i. (opened.rest i).site) in
      let all = writes_run names rows g r read in
      let begins : Goes o.folder.told g.folder.told Opened = subst (λ (f : Option Folder). Goes f g.folder.told Opened) (λ i. (took.same i).folder.told) begun.at.begun in
      let grows : Goes g.folder.told e.folder.told (Grown all.run) = subst (λ (f : Option Folder). Goes g.folder.told f (Grown all.run)) (λ i. (sym told.same i).folder.told) all.written in
      let recorded : IsRunOf names a.site.told a.input.told all.run = subst (λ (s : Seen Files). IsRunOf names s.told a.input.told all.run) site (subst (λ (s : Seen (List ℕ)). IsRunOf names g.site.told s.told all.run) input all.is) in
      let keeps : Goes o.folder.told k.folder.told (KeepsRun number (run_of options.partial (run_bytes recorded.events))) =
      subst (λ (l : List ℕ). Goes o.folder.told k.folder.told (KeepsRun number (run_of options.partial l))) recorded.packets
      (run_kept number options.partial all.run o.folder.told e.folder.told k.folder.told (goes_writes o.folder.told g.folder.told e.folder.told all.run begins grows) kept.at.kept) in
      let adds : Goes a.folder.told m.folder.told (AddsRun options.partial recorded.events) =
      adds_through options.partial number recorded.events a.folder.told o.folder.told m.folder.told (open_quiet a o (Ok found) opened.at) (kept_adds options.partial number recorded.events rows o.folder.told k.folder m.folder result refreshed.at keeps) in
      record {
        sources = recorded.sources;
        are_sources = recorded.are_sources;
        are_bytes = recorded.are_bytes;
        events = recorded.events;
        recorded = recorded.recorded;
        stored = subst (λ (f : Option Folder). Goes a.folder.told f (AddsRun options.partial recorded.events)) (sym still) adds;
      }

  -- a step before the keeping did not refuse
  not_early : {X : Type 0} (named result : Result Verdict Refusal) → result ≡ named → load_has_kept named ≡ false → load_has_kept result ≡ true → X
  not_early named result is early has =
      let both : true ≡ false = sym has ∙ ap load_has_kept is ∙ early in
      absurd cc

  pub load_stores : (result : Result Verdict Refusal) → Loads options names a b result → load_has_kept result ≡ true → StoresLoad options names a b
  load_stores result (stops fault is step) has = not_early (Err (Open fault)) result is refl has
  load_stores result (goes_on found o opened (stops fault is step)) has = not_early (Err (Runs fault)) result is refl has
  load_stores result (goes_on found o opened (goes_on _ t took (stops fault is step))) has = not_early (Err (Keep fault)) result is refl has
  load_stores result (goes_on found o opened (goes_on _ t took (goes_on _ g begun (stops fault is step)))) has = not_early (Err (Record fault)) result is refl has
  load_stores result (goes_on found o opened (goes_on _ t took (goes_on _ g begun (goes_on rows r read (stops fault is step))))) has = not_early (Err (Memory fault)) result is refl has
  load_stores result (goes_on found o opened (goes_on _ t took (goes_on _ g begun (goes_on rows r read (goes_on report e told (stops fault is step)))))) has = not_early (Err (Keep fault)) result is refl has
  load_stores result (goes_on found o opened (goes_on _ t took (goes_on _ g begun (goes_on rows r read (goes_on report e told (goes_on _ k kept (stops fault is refreshed))))))) has =
      stores o t g r e k b found rows report (Err fault) opened took begun read told kept refreshed refl
  load_stores result (goes_on found o opened (goes_on _ t took (goes_on _ g begun (goes_on rows r read (goes_on report e told (goes_on _ k kept (goes_on _ m refreshed (stops fault is printed)))))))) has =
      stores o t g r e k m found rows report (Ok tt) opened took begun read told kept refreshed (λ i. (printed.rest i).folder.told)
  load_stores result (goes_on found o opened (goes_on _ t took (goes_on _ g begun (goes_on rows r read (goes_on report e told (goes_on _ k kept (goes_on _ m refreshed (goes_on _ n printed gives)))))))) has =
      stores o t g r e k m found rows report (Ok tt) opened took begun read told kept refreshed ((λ i. (gives.same i).folder.told) ∙ (λ i. (printed.rest i).folder.told))
