-- A repository is made where there is none, and then all goes on: what is promised of both parts together.
use Rattle.std.proofs.Common.{◌≡◌, ◌⊎◌, inl, inr, ℕ, ◌≤◌, Bool, true, false, Option, None, Some, IsSome, IfSome, List, Result, Ok, Err, refl, sym, ap, subst, ◌∙◌, IsTrue, ◌∷◌, arith}
use Rattle.edge_io.specs.Causes.{Rose}
use Rattle.edge_io.specs.Disk.{Files, Disk, Folder, IsImage, put}
use Rattle.edge_io.specs.Moments.{Passes}
use Rattle.edge_io.specs.Seen.{Seen}
use Rattle.edge_io.specs.Steps.{Goes}
use Rattle.edge_io.proofs.Going.{goes_then, goes_from, goes_weaker}
use Rattle.edge_io.proofs.Passing.{passes_then, passes_weaker}
use Rattle.run_ledger.specs.Caches.{IsSound}
use Rattle.run_ledger.specs.Refreshing.{KeepsSound}
use Rattle.run_shelf.specs.declared.faults.InitFault.{InitFault}
use Rattle.run_shelf.specs.declared.faults.InitFault.TheVariants as init_fault
use Rattle.run_shelf.specs.Images.{HasFormatBeside, PassesFormat, PassesOld, MakesRepository}
use Rattle.run_shelf.specs.Outcomes.{InitFails}
use Rattle.run_shelf.specs.Repository.{format_name, format_bytes}
use Rattle.command_steps.specs.Outside.{Outside, Work, work_of, SomeRose, of_folder, of_site, of_spawner, of_input, of_out}
use Rattle.command_steps.specs.Refusals.{exit_status}
use Rattle.command_steps.specs.Runs.{KeepsFiles}
use Rattle.command_steps.specs.Steps.{stops, goes_on as chain_on}
use Rattle.command_steps.specs.Store.{Makes, MakesWhereNone}
use Rattle.command_steps.specs.declared.answer.Verdict.{Verdict}
use Rattle.command_steps.specs.declared.answer.Verdict.TheVariants.{Passed}
use Rattle.command_steps.specs.declared.answer.Refusal.{Refusal}
use Rattle.command_steps.specs.declared.answer.Refusal.TheVariants.{Init}
use Rattle.command_steps.proofs.Resting.{goes_before, goes_both, passes_leaves}
use Rattle.command_steps.proofs.SoundLemmas.{sound_then}
use Rattle.testr_words.specs.Suites.{RunOptions, is_partial, LoadOptions}
use Rattle.testr_words.specs.Tasks.{Task, init, load, run, forces_for}
use Rattle.testr_commands.specs.Forced.{ready_with, ready_files, ReadsReady, LeavesFormat, IsMadeReady, LeftReady, PassesForced, GoesOnReady, GoesForced, goes_on, not_made, not_read, CanForce, PromisesForced, PromisesBy}
use Rattle.testr_commands.specs.Program.{SomeFailed, IsPerformed, GivesUp, Tells, Answers, Promises}
use Rattle.testr_commands.specs.Stops.{PassesLoad, HasLoadedRun}
use Rattle.testr_commands.specs.SuiteStops.{PassesSuiteRun, HasSuiteRun}
use Rattle.testr_commands.specs.Workers.{RunsWorkers}
use Rattle.testr_commands.proofs.PromiseLemmas.{promises, with_reading}

-- ---- the folder behind the first part

never_true : IsTrue false → ⊥
never_true is = cc

same_with : (found : Option (List ℕ)) (files : Files) → IsSome found → ready_with found files ≡ files
same_with None files there = absurd (never_true there)
same_with (Some bytes) files there = refl

made_with : (found : Option (List ℕ)) (files : Files) → found ≡ None → ready_with found files ≡ put files format_name format_bytes
made_with None files absent = refl
made_with (Some bytes) files absent = cc

module _ (before ready : Outside) (is : IsMadeReady before ready) where
  abbrev a : Option Folder
  a = before.folder.told

  abbrev m : Option Folder
  m = ready.folder.told

  pub reads_ready : Goes a m ReadsReady
  reads_ready = elim is.how [
    | inl leaves ↦ goes_from a m (λ s. IsSome (s.disk.published format_name)) KeepsFiles ReadsReady leaves.there leaves.files (λ s t there files. files ∙ sym (same_with (s.disk.published format_name) s.disk.published there))
    | inr given ↦ goes_weaker a m MakesRepository ReadsReady (given.did (omega arith)).0 (λ s t made. ap (λ (d : Disk). d.published) made.disk ∙ sym (made_with (s.disk.published format_name) s.disk.published made.absent))
  ]

  passes_ready : Goes a m (λ s t. Passes (LeftReady s) s t)
  passes_ready = elim is.how [
    | inl leaves ↦ goes_weaker a m PassesOld (λ s t. Passes (LeftReady s) s t) leaves.any_moment (λ s t old. passes_weaker (IsImage s.disk) (LeftReady s) (λ image left. inl left) s t old)
    | inr given ↦ given.any_moment
  ]

  sound_ready : Goes a m KeepsSound
  sound_ready = elim is.how [
    | inl leaves ↦ goes_weaker a m PassesOld KeepsSound leaves.any_moment (λ s t old sound. passes_weaker (IsImage s.disk) IsSound sound s t old)
    | inr given ↦ given.sound
  ]

  both_ready : Goes a m (λ s t. ReadsReady s t × Passes (LeftReady s) s t)
  both_ready = goes_both a m ReadsReady (λ s t. Passes (LeftReady s) s t) (λ s t. ReadsReady s t × Passes (LeftReady s) s t) reads_ready passes_ready (λ s t reads passes. (reads, passes))

-- ---- and what a stop leaves of both

extends_old : (s m t : Folder) → Passes (LeftReady s) s m → Passes (IsImage m.disk) m t → Passes (LeftReady s) s t
extends_old s m t first second =
    passes_then (LeftReady s) s m t first (passes_weaker (IsImage m.disk) (LeftReady s) (passes_leaves (LeftReady s) s m first (λ image left. inl left)) m t second)

module _ (Extra : Files → Files → Type 0) where
  abbrev LeftMore : Folder → Files → Type 0
  LeftMore s image = LeftReady s image ⊎ Extra (ready_files s.disk.published) image

  left_more : (s m : Folder) → ReadsReady s m → Passes (LeftReady s) s m → (image : Files) → IsImage m.disk image ⊎ Extra m.disk.published image → LeftMore s image
  left_more s m reads first image (inl left) = inl (passes_leaves (LeftReady s) s m first (λ i before. inl before) image left)
  left_more s m reads first image (inr more) = inr (subst (λ (files : Files). Extra files image) reads more)

  extends : (s m t : Folder) → ReadsReady s m → Passes (LeftReady s) s m → Passes (λ image. IsImage m.disk image ⊎ Extra m.disk.published image) m t → Passes (LeftMore s) s t
  extends s m t reads first second =
      passes_then (LeftMore s) s m t
      (passes_weaker (LeftReady s) (LeftMore s) (λ image left. inl left) s m first)
      (passes_weaker (λ image. IsImage m.disk image ⊎ Extra m.disk.published image) (LeftMore s) (left_more s m reads first) m t second)

module _ (before ready after : Outside) (answer : ℕ) (is : IsMadeReady before ready) where
  abbrev x : Option Folder
  x = before.folder.told

  abbrev y : Option Folder
  y = ready.folder.told

  abbrev z : Option Folder
  z = after.folder.told

  sound_all : Goes y z KeepsSound → Goes x z KeepsSound
  sound_all later = goes_then x y z KeepsSound KeepsSound KeepsSound (sound_ready before ready is) later sound_then

  reads_all : Goes y z KeepsFiles → Goes x z ReadsReady
  reads_all later = goes_then x y z ReadsReady KeepsFiles ReadsReady (reads_ready before ready is) later (λ s m t reads same. same ∙ reads)

  module _ (options : LoadOptions) (names : List (List ℕ)) where
    load_moments : Goes y z (PassesLoad options.partial names ready.site.told ready.input.told) → Goes x z (PassesForced (load options names) (work_of before) (work_of ready) (work_of after))
    load_moments later =
        let site : ready.site ≡ before.site = λ i. (is.rest i).site in
        let input : ready.input ≡ before.input = λ i. (is.rest i).input in
        let told : Goes y z (PassesLoad options.partial names before.site.told before.input.told) = subst (λ (s : Seen Files). Goes y z (PassesLoad options.partial names s.told before.input.told)) site (subst (λ (s : Seen (List ℕ)). Goes y z (PassesLoad options.partial names ready.site.told s.told)) input later) in
        goes_then x y z (λ s t. ReadsReady s t × Passes (LeftReady s) s t) (PassesLoad options.partial names before.site.told before.input.told) (PassesForced (load options names) (work_of before) (work_of ready) (work_of after)) (both_ready before ready is) told
        (λ s m t first second. extends (HasLoadedRun options.partial names before.site.told before.input.told) s m t first.0 first.1 second)

    load_goes : Promises false (Some (load options names)) ready after answer → GoesOnReady (load options names) before after answer
    load_goes rest = record {
      ready = ready;
      is_ready = is;
      rest = rest;
      any_moment = load_moments rest.any_moment;
      sound = sound_all rest.sound;
      kept = λ not. reads_all (rest.kept not);
    }

  module _ (options : RunOptions) where
    abbrev Forced : Folder → Folder → Type 0
    Forced = PassesForced (run options) (work_of before) (work_of ready) (work_of after)

    run_extends : (s m t : Folder) → ReadsReady s m × Passes (LeftReady s) s m → PassesSuiteRun options (work_of ready) (work_of after) m t → Forced s t
    run_extends s m t first (inl old) = inl (extends_old s m t first.1 old)
    run_extends s m t first (inr given) = inr (given.0, extends (HasSuiteRun (is_partial options) given.0.events) s m t first.0 first.1 given.1)

    run_goes : Promises false (Some (run options)) ready after answer → GoesOnReady (run options) before after answer
    run_goes rest = record {
      ready = ready;
      is_ready = is;
      rest = rest;
      any_moment = goes_then x y z (λ s t. ReadsReady s t × Passes (LeftReady s) s t) (PassesSuiteRun options (work_of ready) (work_of after)) Forced (both_ready before ready is) rest.any_moment run_extends;
      sound = sound_all rest.sound;
      kept = λ not. reads_all (rest.kept not);
    }

-- ---- completeness

rose_before : (a m b : Work) → m ≡ record a { folder = m.folder } → m.folder.faults ≡ a.folder.faults → SomeRose m b → SomeRose a b
rose_before a m b rest count (of_folder rose) = of_folder (subst (λ (n : ℕ). Rose n b.folder.faults) count rose)
rose_before a m b rest count (of_site rose) = of_site (subst (λ (s : Seen Files). Rose s.faults b.site.faults) (λ i. (rest i).site) rose)
rose_before a m b rest count (of_spawner rose) = of_spawner (subst (λ (n : ℕ). Rose n b.spawner.faults) (λ i. (rest i).spawner.faults) rose)
rose_before a m b rest count (of_input rose) = of_input (subst (λ (n : ℕ). Rose n b.input.faults) (λ i. (rest i).input.faults) rose)
rose_before a m b rest count (of_out rose) = of_out (subst (λ (n : ℕ). Rose n b.out.faults) (λ i. (rest i).out.faults) rose)

abbrev IsFew : ℕ → Type 0
IsFew answer = (answer ≤ 1) ⊎ (answer ≡ 5)

module _ {reading : Bool} (task : Task) (before after : Outside) (answer : ℕ) (some : (m : Work) → SomeFailed (Some task) m (work_of after) → SomeRose m (work_of after)) (few : IsPerformed (Some task) answer → IsFew answer) where
  completes : GoesForced reading task before after answer → CanForce task (work_of before) → (SomeRose (work_of before) (work_of after) → ⊥) → IsFew answer
  completes (goes_on given) can none =
      let rest : work_of given.ready ≡ record (work_of before) { folder = given.ready.folder } = ap work_of given.is_ready.rest in
      let done = given.rest.completeness (can (work_of given.ready) (reads_ready before given.ready given.is_ready) rest) (λ failed. none (rose_before (work_of before) (work_of given.ready) (work_of after) rest given.is_ready.count (some (work_of given.ready) failed))) in
      elim done [
        | inl performed ↦ few performed
        | inr wanting ↦ absurd (never_true wanting.0)
      ]
  completes (not_made four given) can none = elim (given.fault four) [
    | inl rose ↦ absurd (none rose)
    | inr child ↦ absurd child.0
  ]
  completes (not_read reads outcome gives told) can none = inr (told.code ∙ ap exit_status gives.memory)

module _ {reading : Bool} (before after : Outside) (answer : ℕ) where
  pub load_forced : (options : LoadOptions) (names : List (List ℕ)) → GoesForced reading (load options names) before after answer → PromisesForced reading (load options names) before after answer
  load_forced options names goes = record { goes = goes; completeness = completes (load options names) before after answer (λ m rose. rose) (λ few. few) goes }

  pub run_forced : (options : RunOptions) → GoesForced reading (run options) before after answer → PromisesForced reading (run options) before after answer
  run_forced options goes = record { goes = goes; completeness = completes (run options) before after answer (λ m rose. rose) (λ few. few) goes }

-- ---- the first part, as its step does it

module _ (before : Outside) (m : Seen Folder) where
  abbrev behind : Outside
  behind = record before { folder = m }

  init_made : Makes before.folder m (Ok tt) → Promises false (Some init) before behind 0
  init_made makes = promises false (Some init) before behind 0 (record {
    outcome = Ok Passed;
    done = inl (record { at = chain_on tt m makes (record { answer = refl; same = refl }); rest = refl });
    told = record { line = refl; code = refl };
  })

  old_of : (s t : Folder) → InitFails init_fault.Exists s t → PassesFormat s t → PassesOld s t
  old_of s t fails passes = passes_weaker (LeftReady s) (IsImage s.disk) by s t passes
    where
      by : (image : Files) → LeftReady s image → IsImage s.disk image
      by image (inl left) = left
      by image (inr beside) = absurd (never_true (subst IsSome beside.absent fails.0))

  format_left : Makes before.folder m (Err init_fault.Exists) → LeavesFormat before behind
  format_left makes = record {
    there = goes_before before.folder.told m.told (InitFails init_fault.Exists) (λ s. IsSome (s.disk.published format_name)) makes.refused (λ s t fails. fails.0);
    files = goes_weaker before.folder.told m.told (InitFails init_fault.Exists) KeepsFiles makes.refused (λ s t fails. ap (λ (f : Folder). f.disk.published) fails.1);
    any_moment = goes_both before.folder.told m.told (InitFails init_fault.Exists) PassesFormat PassesOld makes.refused makes.any_moment old_of;
  }

  is_ready : MakesWhereNone before.folder m (Ok tt) → IsMadeReady before behind
  is_ready (inl makes) = record { how = inr (init_made makes); count = makes.count.stands refl; rest = refl }
  is_ready (inr makes) = record { how = inl (format_left makes); count = makes.count.stands refl; rest = refl }

pub made_ready : (before ready : Outside) → MakesWhereNone before.folder ready.folder (Ok tt) → ready ≡ record before { folder = ready.folder } → IsMadeReady before ready
made_ready before ready makes rest = subst (IsMadeReady before) (sym rest) (is_ready before ready.folder makes)

-- where a call failed
module _ (before after : Outside) (answer : ℕ) (fault : InitFault) (tells : Tells (Err (Init fault)) before.errors after.errors answer) (rest : work_of after ≡ record (work_of before) { folder = after.folder }) where
  pub init_failed_as : MakesWhereNone before.folder after.folder (Err fault) → (answer ≡ 4) × Promises false (Some init) before after answer
  init_failed_as makes = by fault tells makes
    where
      by : (f : InitFault) → Tells (Err (Init f)) before.errors after.errors answer → MakesWhereNone before.folder after.folder (Err f) → (answer ≡ 4) × Promises false (Some init) before after answer
      by init_fault.Exists told none = absurd none
      by (init_fault.Shelf call) told makes = (
        told.code,
        promises false (Some init) before after answer (record {
          outcome = Err (Init (init_fault.Shelf call));
          done = inl (record { at = stops (init_fault.Shelf call) refl makes; rest = rest });
          told = told;
        }),
      )

-- ---- by what was asked for

-- it is not asked that one is made
pub not_forced : (force : Bool) (asked : Option Task) (before after : Outside) (answer : ℕ) → force ≡ false → Promises false asked before after answer → PromisesBy force false asked before after answer
not_forced force asked before after answer is given = subst (λ (f : Bool). PromisesBy f false asked before after answer) (sym is) given

-- the folder was made ready
pub forced_on : (force : Bool) (asked : Option Task) (before ready after : Outside) (answer : ℕ) → forces_for force asked ≡ true → Promises false asked ready after answer → IsMadeReady before ready → PromisesBy (forces_for force asked) false asked before after answer
forced_on force (Some (load options names)) before ready after answer is rest how =
    subst (λ (f : Bool). PromisesBy f false (Some (load options names)) before after answer) (sym is) (load_forced before after answer options names (goes_on (load_goes before ready after answer how options names rest)))
forced_on force (Some (run options)) before ready after answer is rest how =
    subst (λ (f : Bool). PromisesBy f false (Some (run options)) before after answer) (sym is) (run_forced before after answer options (goes_on (run_goes before ready after answer how options rest)))
forced_on force asked before ready after answer is rest how = cc

-- or a call failed before
pub forced_not : (force : Bool) (asked : Option Task) (before after : Outside) (answer : ℕ) → forces_for force asked ≡ true → (answer ≡ 4) × Promises false (Some init) before after answer → PromisesBy (forces_for force asked) false asked before after answer
forced_not force (Some (load options names)) before after answer is given =
    subst (λ (f : Bool). PromisesBy f false (Some (load options names)) before after answer) (sym is) (load_forced before after answer options names (not_made given.0 given.1))
forced_not force (Some (run options)) before after answer is given =
    subst (λ (f : Bool). PromisesBy f false (Some (run options)) before after answer) (sym is) (run_forced before after answer options (not_made given.0 given.1))
forced_not force asked before after answer is given = cc

-- ---- where words were read for it

goes_read : {task : Task} {before after : Outside} {answer : ℕ} → GoesForced false task before after answer → GoesForced true task before after answer
goes_read (goes_on given) = goes_on given
goes_read (not_made four given) = not_made four given
goes_read (not_read reads outcome gives told) = absurd (never_true reads)

pub by_reading : (force : Bool) (asked : Option Task) (before after : Outside) (answer : ℕ) → PromisesBy force false asked before after answer → PromisesBy force true asked before after answer
by_reading true (Some (load options names)) before after answer given = load_forced before after answer options names (goes_read given.goes)
by_reading true (Some (run options)) before after answer given = run_forced before after answer options (goes_read given.goes)
by_reading true asked before after answer given = promises true asked before after answer (with_reading given.answers)
by_reading false asked before after answer given = promises true asked before after answer (with_reading given.answers)

-- memory was wanting for the words
pub by_memory : (force : Bool) (asked : Option Task) (before after : Outside) (answer : ℕ) (outcome : Result Verdict Refusal) → GivesUp (work_of before) (work_of after) outcome → Tells outcome before.errors after.errors answer → PromisesBy force true asked before after answer
by_memory true (Some (load options names)) before after answer outcome gives told = load_forced before after answer options names (not_read refl outcome gives told)
by_memory true (Some (run options)) before after answer outcome gives told = run_forced before after answer options (not_read refl outcome gives told)
by_memory true asked before after answer outcome gives told = promises true asked before after answer (record { outcome = outcome; done = inr (refl, gives); told = told })
by_memory false asked before after answer outcome gives told = promises true asked before after answer (record { outcome = outcome; done = inr (refl, gives); told = told })
