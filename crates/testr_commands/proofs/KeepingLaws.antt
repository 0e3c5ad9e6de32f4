-- A run that is kept behind its draft, then the caches, and then what leaves the folder.
use Rattle.std.proofs.Common.{◌≡◌, ◌⊎◌, inl, inr, ℕ, Bool, Option, IfSome, List, Result, Ok, Err, sym, subst}
use Rattle.edge_io.specs.Disk.{Files, Folder, IsImage}
use Rattle.edge_io.specs.Moments.{Passes}
use Rattle.edge_io.specs.Seen.{Seen}
use Rattle.edge_io.specs.Steps.{Goes}
use Rattle.edge_io.proofs.Going.{goes_then, goes_weaker}
use Rattle.edge_io.proofs.Passing.{passes_then, passes_weaker}
use Rattle.outcome_fold.specs.declared.row.Row.{Row}
use Rattle.run_ledger.specs.Reading.{AreRowsOf}
use Rattle.run_ledger.specs.Refreshing.{KeepsSound}
use Rattle.run_shelf.specs.Drafts.{Writes}
use Rattle.run_shelf.specs.Images.{KeepsRun, PassesRun}
use Rattle.run_shelf.specs.Repository.{Run, run_of}
use Rattle.run_shelf.proofs.DraftLemmas.{run_kept, run_passes}
use Rattle.command_steps.specs.Outside.{Work, work_folder}
use Rattle.command_steps.specs.Refreshing.{Refreshes}
use Rattle.command_steps.specs.Runs.{HasRunAndCaches, KeepsRepository}
use Rattle.command_steps.specs.Steps.{Step, Then, stops, goes_on, At}
use Rattle.command_steps.specs.Store.{Keeps}
use Rattle.command_steps.specs.declared.answer.Refusal.{Refusal}
use Rattle.command_steps.specs.declared.answer.Refusal.TheVariants.{Keep, Refresh}
use Rattle.command_steps.proofs.Resting.{KeepsReads, rests_images}
use Rattle.command_steps.proofs.SoundLemmas.{IsCalm, PassesAll, goes_named, goes_refreshed, rests_repository, rests_sound, sound_then}

module _ {A : Type 0} (partial : Bool) (number : ℕ) (bytes : List ℕ) (rows : List Row) (rest : Step Work A Refusal) (leaves : (a b : Work) (result : Result A Refusal) → rest a b result → b.folder ≡ a.folder) where
  abbrev run : Run
  run = run_of partial bytes

  abbrev Caches : Step Work A Refusal
  Caches = Then Refresh (At work_folder (Refreshes number rows)) (λ _. rest)

  module _ (s : Option Folder) (are : AreRowsOf bytes rows) (calm : IfSome s IsCalm) where
    -- over a folder in which the run was kept
    caches_moves : (k b : Work) (result : Result A Refusal) → Goes s k.folder.told (KeepsRun number run) → Goes s k.folder.told (PassesRun number run) → Caches k b result → Goes s b.folder.told (PassesAll number run)
    caches_moves k b result kept passes (stops fault is step) = goes_refreshed number run rows s k.folder b.folder (Err fault) step.at are calm kept passes
    caches_moves k b result kept passes (goes_on _ l step next) =
        subst (λ (f : Seen Folder). Goes s f.told (PassesAll number run)) (sym (leaves l b result next))
        (goes_refreshed number run rows s k.folder l.folder (Ok tt) step.at are calm kept passes)

    -- over a draft of these bytes
    pub keeps_moves : (a b : Work) (result : Result A Refusal) → Goes s a.folder.told (Writes bytes) → Then Keep (At work_folder (Keeps partial number)) (λ _. Caches) a b result → Goes s b.folder.told (PassesAll number run)
    keeps_moves a b result written (stops fault is step) = goes_named number run s b.folder.told calm step.at.reads (run_passes number partial bytes s a.folder.told b.folder.told written step.at.any_moment)
    keeps_moves a b result written (goes_on _ k step next) =
        caches_moves k b result
        (run_kept number partial bytes s a.folder.told k.folder.told written step.at.kept)
        (run_passes number partial bytes s a.folder.told k.folder.told written step.at.any_moment)
        next

-- ---- what a command leaves that adds at most one run, of which this is told

module _ (Extra : Files → Files → Type 0) where
  abbrev LeftBy : Folder → Files → Type 0
  LeftBy s image = IsImage s.disk image ⊎ Extra s.disk.published image

  -- what a stop at each moment leaves, that it is sound where it was, and that a repository stays one
  pub record MovesSoundly (s t : Folder) : Type 0 where
    pub stops : Passes (LeftBy s) s t
    pub sound : KeepsSound s t
    pub repository : KeepsRepository s t

  pub quiet_moves : (a b : Option Folder) → Goes a b KeepsReads → Goes a b MovesSoundly
  quiet_moves a b quiet = goes_weaker a b KeepsReads MovesSoundly quiet (λ s t rests. record {
    stops = passes_weaker (IsImage s.disk) (LeftBy s) (λ image left. inl left) s t rests.old;
    sound = rests_sound s t rests;
    repository = rests_repository s t rests;
  })

  module _ (number : ℕ) (run : Run) (told : (files image : Files) → HasRunAndCaches files number run image → Extra files image) where
    left_by : (s m : Folder) → KeepsReads s m → (image : Files) → IsImage m.disk image ⊎ HasRunAndCaches m.disk.published number run image → LeftBy s image
    left_by s m rests image (inl before) = inl (rests_images s m rests image before)
    left_by s m rests image (inr beside) = inr (told s.disk.published image (subst (λ (files : Files). HasRunAndCaches files number run image) rests.files beside))

    pub run_moves : (a m b : Option Folder) → Goes a m KeepsReads → Goes m b (PassesAll number run) → Goes a b MovesSoundly
    run_moves a m b quiet runs = goes_then a m b KeepsReads (PassesAll number run) MovesSoundly quiet runs (λ s m t rests passes. record {
      stops =
          passes_then (LeftBy s) s m t
          (passes_weaker (IsImage s.disk) (LeftBy s) (λ image left. inl left) s m rests.old)
          (passes_weaker (λ image. IsImage m.disk image ⊎ HasRunAndCaches m.disk.published number run image) (LeftBy s) (left_by s m rests) m t passes.stops);
      sound = sound_then s m t (rests_sound s m rests) passes.sound;
      repository = λ was. passes.repository;
    })
