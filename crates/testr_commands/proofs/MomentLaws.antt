-- What a stop at each moment of a load leaves, and of the making of a repository, at each of its exits.
use Rattle.std.proofs.Common.{◌≡◌, ◌⊎◌, inl, inr, ℕ, Bool, Option, IfSome, Result, Ok, Err, List, [], length, sym, subst, ◌∙◌}
use Rattle.edge_io.specs.Disk.{Files, Folder, IsImage}
use Rattle.edge_io.specs.Seen.{Seen}
use Rattle.edge_io.specs.Steps.{Goes}
use Rattle.edge_io.proofs.Going.{goes_from}
use Rattle.edge_io.proofs.Passing.{passes_weaker}
use Rattle.outcome_fold.specs.declared.row.Row.{Row}
use Rattle.run_ledger.specs.Caches.{IsSound}
use Rattle.run_ledger.specs.Reading.{AreRowsOf}
use Rattle.run_ledger.specs.Refreshing.{KeepsSound}
use Rattle.run_ledger.proofs.SoundLemmas.{sound_format}
use Rattle.run_shelf.specs.declared.found.Found.{Found}
use Rattle.run_shelf.specs.declared.faults.InitFault.{InitFault}
use Rattle.run_shelf.specs.Drafts.{Writes}
use Rattle.run_shelf.proofs.DraftLemmas.{goes_writes}
use Rattle.run_shelf.specs.Repository.{run_of}
use Rattle.run_shelf.specs.Holds.{kinds_of}
use Rattle.run_shelf.specs.Images.{HasFormatBeside, PassesFormat}
use Rattle.command_steps.specs.Steps.{Then, stops, goes_on, Still, Gives, At}
use Rattle.command_steps.specs.Outside.{Work, work_folder, work_out}
use Rattle.command_steps.specs.Runs.{HasRunAndCaches}
use Rattle.command_steps.specs.Store.{Makes, Opens, TakesRun, Keeps}
use Rattle.command_steps.specs.declared.store.RunsFault.{RunsFault}
use Rattle.command_steps.specs.Refreshing.{Refreshes}
use Rattle.command_steps.specs.Reporting.{Report, Reports, Prints}
use Rattle.testr_commands.specs.Stops.{HasLoadedRun}
use Rattle.testr_commands.specs.Init.{Inits}
use Rattle.testr_commands.specs.Load.{Loads}
use Rattle.command_steps.specs.declared.answer.Verdict.{Verdict}
use Rattle.command_steps.specs.declared.answer.Refusal.{Refusal}
use Rattle.command_steps.specs.declared.answer.Refusal.TheVariants.{Memory, Keep, Refresh, Print}
use Rattle.testr_commands.proofs.SourcesLemmas.{IsRunOf, writes_run}
use Rattle.command_steps.proofs.Resting.{KeepsReads, rests_then}
use Rattle.command_steps.proofs.SoundLemmas.{IsCalm, PassesAll, surveyed_calm, goes_rested}
use Rattle.testr_commands.proofs.KeepingLaws.{keeps_moves, MovesSoundly, quiet_moves, run_moves}
use Rattle.testr_commands.proofs.ChainLemmas.{IsQuiet}
use Rattle.testr_commands.proofs.StepLaws.{still_quiet, open_quiet, begin_quiet, record_quiet}
use Rattle.testr_words.specs.Suites.{LoadOptions}
use Rattle.testr_words.specs.declared.format.FormatKind.{FormatKind}

module _ (partial : Bool) (number : ℕ) (run : List ℕ) where
  abbrev Runs : Folder → Folder → Type 0
  Runs = PassesAll number (run_of partial run)

  printed_or_not : (text : List ℕ) (verdict : Verdict) (a b : Work) (result : Result Verdict Refusal) → Then Print (At work_out (Prints text)) (λ _. Gives verdict) a b result → b.folder ≡ a.folder
  printed_or_not text verdict a b result (stops fault is step) = λ i. (step.rest i).folder
  printed_or_not text verdict a b result (goes_on _ m step gives) = (λ i. (gives.same i).folder) ∙ (λ i. (step.rest i).folder)

  -- behind a run that was begun at s and written up to a
  module _ (s : Option Folder) (a b : Work) (calm : IfSome s IsCalm) (written : Goes s a.folder.told (Writes run)) (quiet : Goes s a.folder.told KeepsReads) where
    reported_or_not : (format : FormatKind) (rows : List Row) (result : Result Verdict Refusal) → AreRowsOf run rows → Then Memory (Still (Reports format number [] rows)) (λ (report : Report). Then Keep (At work_folder (Keeps partial number)) (λ _. Then Refresh (At work_folder (Refreshes number rows)) (λ _. Then Print (At work_out (Prints report.text)) (λ _. Gives report.verdict)))) a b result → Goes s b.folder.told Runs
    reported_or_not format rows result are (stops fault is step) = goes_rested number (run_of partial run) s b.folder.told calm (subst (λ (w : Work). Goes s w.folder.told KeepsReads) (sym step.same) quiet)
    reported_or_not format rows result are (goes_on report m step next) =
        keeps_moves partial number run rows (Then Print (At work_out (Prints report.text)) (λ _. Gives report.verdict)) (printed_or_not report.text report.verdict) s are calm m b result
        (subst (λ (w : Work). Goes s w.folder.told (Writes run)) (sym step.same) written) next

  module _ (names : List (List ℕ)) (told : Option Files) (left : Option (List ℕ)) (records : IsRunOf names told left run) where
    loaded_run : (files image : Files) → HasRunAndCaches files number (run_of partial run) image → HasLoadedRun partial names told left files image
    loaded_run files image beside = record {
      number = number;
      sources = records.sources;
      are_sources = records.are_sources;
      are_bytes = records.are_bytes;
      events = records.events;
      recorded = records.recorded;
      beside = subst (λ (l : List ℕ). HasRunAndCaches files number (run_of partial l) image) records.packets beside;
    }

taken : (a m m2 : Work) (found : Found) → At work_folder Opens a m (Ok found) → Still {E = RunsFault} (TakesRun (length (kinds_of found))) m m2 (Ok tt) → IsQuiet a m2
taken a m m2 found opened took = rests_then a.folder.told m.folder.told m2.folder.told (open_quiet a m (Ok found) opened.at) (still_quiet m m2 took.same)

module _ (options : LoadOptions) (names : List (List ℕ)) where
  abbrev pub MovesFrom : Work → Work → Type 0
  MovesFrom a b = Goes a.folder.told b.folder.told (MovesSoundly (HasLoadedRun options.partial names a.site.told a.input.told))

  quiet_from : (a b : Work) → IsQuiet a b → MovesFrom a b
  quiet_from a b quiet = quiet_moves (HasLoadedRun options.partial names a.site.told a.input.told) a.folder.told b.folder.told quiet

  pub load_moves : (a b : Work) (result : Result Verdict Refusal) → Loads options names a b result → MovesFrom a b
  load_moves a b result (stops fault is step) = quiet_from a b (open_quiet a b (Err fault) step.at)
  load_moves a b result (goes_on found m opened (stops fault is step)) = quiet_from a b (rests_then a.folder.told m.folder.told b.folder.told (open_quiet a m (Ok found) opened.at) (still_quiet m b step.same))
  load_moves a b result (goes_on found m opened (goes_on _ m2 took (stops fault is step))) = quiet_from a b (rests_then a.folder.told m2.folder.told b.folder.told (taken a m m2 found opened took) (begin_quiet m2 b (Err fault) step.at))
  load_moves a b result (goes_on found m opened (goes_on _ m2 took (goes_on _ m3 begun (stops refused is step)))) = quiet_from a b (rests_then a.folder.told m2.folder.told b.folder.told (taken a m m2 found opened took) (rests_then m2.folder.told m3.folder.told b.folder.told (begin_quiet m2 m3 (Ok tt) begun.at) (record_quiet m3 b names (Err refused) step)))
  load_moves a b result (goes_on found m opened (goes_on _ m2 took (goes_on _ m3 begun (goes_on rows m4 recorded next)))) =
      let input : m3.input ≡ a.input = (λ i. (begun.rest i).input) ∙ (λ i. (took.same i).input) ∙ (λ i. (opened.rest i).input) in
      let site : m3.site ≡ a.site = (λ i. (begun.rest i).site) ∙ (λ i. (took.same i).site) ∙ (λ i. (opened.rest i).site) in
      let all = writes_run names rows m3 m4 recorded in
      let records : IsRunOf names a.site.told a.input.told all.run = subst (λ (s : Seen Files). IsRunOf names s.told a.input.told all.run) site (subst (λ (s : Seen (List ℕ)). IsRunOf names m3.site.told s.told all.run) input all.is) in
      let written : Goes m2.folder.told m4.folder.told (Writes all.run) = goes_writes m2.folder.told m3.folder.told m4.folder.told all.run begun.at.begun all.written in
      let quiet : IsQuiet m2 m4 = rests_then m2.folder.told m3.folder.told m4.folder.told (begin_quiet m2 m3 (Ok tt) begun.at) (record_quiet m3 m4 names (Ok rows) recorded) in
      let calm : IfSome m2.folder.told IsCalm = subst (λ (w : Work). IfSome w.folder.told IsCalm) (sym took.same) (surveyed_calm (kinds_of found) a.folder.told m.folder.told opened.at.found) in
      let number = length (kinds_of found) in
      run_moves (HasLoadedRun options.partial names a.site.told a.input.told) number (run_of options.partial all.run) (loaded_run options.partial number all.run names a.site.told a.input.told records) a.folder.told m2.folder.told b.folder.told (taken a m m2 found opened took) (reported_or_not options.partial number all.run m2.folder.told m4 b calm written quiet options.format rows result all.rows_are next)

pub init_moves : (a b : Seen Folder) (result : Result Verdict Refusal) → Inits a b result → Goes a.told b.told PassesFormat
init_moves a b result (stops fault is step) = step.any_moment
init_moves a b result (goes_on _ m step gives) = subst (λ (f : Seen Folder). Goes a.told f.told PassesFormat) (sym gives.same) step.any_moment

-- the files as read before are what a stop may leave then
make_sound : (a b : Seen Folder) (result : Result (Unit {0}) InitFault) → Makes a b result → Goes a.told b.told KeepsSound
make_sound a b result makes = goes_from a.told b.told (λ s. IsImage s.disk s.disk.published) PassesFormat KeepsSound makes.reads makes.any_moment at
  where
    at : (s t : Folder) → IsImage s.disk s.disk.published → PassesFormat s t → KeepsSound s t
    at s t counts passes sound = passes_weaker (λ image. IsImage s.disk image ⊎ HasFormatBeside s.disk.published image) IsSound by s t passes
      where
        by : (image : Files) → IsImage s.disk image ⊎ HasFormatBeside s.disk.published image → IsSound image
        by image (inl left) = sound image left
        by image (inr beside) = sound_format s.disk.published image beside (sound s.disk.published counts)

pub init_sound : (a b : Seen Folder) (result : Result Verdict Refusal) → Inits a b result → Goes a.told b.told KeepsSound
init_sound a b result (stops fault is step) = make_sound a b (Err fault) step
init_sound a b result (goes_on v m step gives) = subst (λ (f : Seen Folder). Goes a.told f.told KeepsSound) (sym gives.same) (make_sound a m (Ok v) step)
