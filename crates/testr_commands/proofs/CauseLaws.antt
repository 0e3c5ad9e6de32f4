-- A command that has no cause to refuse does not: its refusals of status 3 are contradicted one by one.
use Rattle.std.proofs.Common.{◌≡◌, inl, inr, ℕ, ◌<◌, ◌≤◌, Bool, Option, None, Some, IfSome, IsSomeAnd, IsSome, All, Result, Ok, Err, List, [], ◌∷◌, ◌++◌, length, refl, sym, ap, subst, ◌∙◌, arith}
use Rattle.edge_io.specs.Disk.{Files, Folder}
use Rattle.edge_io.specs.Seen.{Seen}
use Rattle.edge_io.specs.Spawners.{Spawning}
use Rattle.edge_io.specs.Limits.{most_bytes}
use Rattle.run_shelf.specs.declared.faults.InitFault.TheVariants as init_fault
use Rattle.run_shelf.specs.declared.faults.OpenFault.{OpenFault}
use Rattle.run_shelf.specs.declared.faults.OpenFault.TheVariants as open_fault
use Rattle.run_shelf.specs.declared.found.Found.{Found}
use Rattle.run_shelf.specs.Repository.{IsRepository, HasKinds, HasFormat, HasOtherFormat, HasBadBase, IsGap, format_name, most_runs}
use Rattle.run_shelf.specs.Holds.{kinds_of}
use Rattle.run_shelf.specs.Outcomes.{InitFails, OpenFails, Surveys}
use Rattle.command_steps.specs.Steps.{stops, goes_on}
use Rattle.std.proofs.lemmas.List.Elements.{All-head, All-tail}
use Rattle.command_steps.specs.Outside.{Work, Filed, Shown, fed, filed}
use Rattle.command_steps.specs.Files.{RecordsSources, HasFilesCause}
use Rattle.command_steps.specs.Runs.{HasRuns}
use Rattle.command_steps.specs.Refusals.{refusal_exit_status}
use Rattle.command_steps.specs.Store.{Opens, open_exit_status}
use Rattle.command_steps.specs.Recording.{Records, record_exit_status}
use Rattle.testr_commands.specs.Init.{Inits}
use Rattle.testr_commands.specs.Load.{Loads}
use Rattle.testr_commands.specs.Ask.{CopiesLast, PrintsAnswer, AnswersOf, Asks}
use Rattle.testr_commands.specs.Program.{CanLoad, HasSources, CanAsk}
use Rattle.testr_words.specs.declared.command.Question.{Question}
use Rattle.command_steps.specs.declared.run_copy.CopyFault.TheVariants as copy_fault
use Rattle.command_steps.specs.declared.input_recorder.RecordFault.{RecordFault}
use Rattle.command_steps.specs.declared.input_recorder.RecordFault.TheVariants as record_fault
use Rattle.command_steps.specs.declared.question_answers.TellFault.TheVariants as tell_fault
use Rattle.command_steps.specs.declared.answer.Verdict.{Verdict}
use Rattle.command_steps.specs.declared.answer.Refusal.{Refusal}
use Rattle.command_steps.specs.declared.answer.Refusal.TheVariants as refusal
use Rattle.testr_commands.proofs.FolderLemmas.{none_or_some, takes_in_repository, not_no_store, not_other_format, not_bad_base, not_gap, not_full, not_empty}
use Rattle.command_steps.proofs.Resting.{goes_before}
use Rattle.testr_commands.proofs.ChainLemmas.{gives_not}
use Rattle.testr_commands.proofs.AskLemmas.{either}
use Rattle.testr_commands.proofs.CommandLaws.{of_shown}
use Rattle.testr_words.specs.Suites.{LoadOptions}

-- a refusal of another status
other : (named r : Refusal) → ◌≡◌ {A = Result Verdict Refusal} (Err r) (Err named) → (refusal_exit_status named ≡ 3 → ⊥) → refusal_exit_status r ≡ 3 → ⊥
other named r is not three =
    let same : r ≡ named = cc in
    not (ap refusal_exit_status (sym same) ∙ three)

-- ---- the steps of the folder

module _ (a b : Seen Folder) where
  pub open_never : (fault : OpenFault) → IsSomeAnd a.told (λ s. IsRepository s.disk.published) → Opens a b (Err fault) → open_exit_status fault ≡ 3 → ⊥
  open_never open_fault.NoStore repository opens three = not_no_store a.told repository (goes_before a.told b.told (OpenFails open_fault.NoStore) (λ s. s.disk.published format_name ≡ None) opens.refused (λ s t fails. fails.0))
  open_never open_fault.UnknownFormat repository opens three = not_other_format a.told repository (goes_before a.told b.told (OpenFails open_fault.UnknownFormat) (λ s. HasOtherFormat s.disk.published) opens.refused (λ s t fails. fails.0))
  open_never open_fault.BadBase repository opens three = not_bad_base a.told repository (goes_before a.told b.told (OpenFails open_fault.BadBase) (λ s. HasFormat s.disk.published × HasBadBase s.disk.published) opens.refused (λ s t fails. fails.0))
  open_never (open_fault.Gap number) repository opens three = not_gap a.told repository number (goes_before a.told b.told (OpenFails (open_fault.Gap number)) (λ s. HasFormat s.disk.published × IsGap s.disk.published number) opens.refused (λ s t fails. fails.0))
  open_never (open_fault.Shelf call) repository opens three = omega arith
  open_never open_fault.NoMemory repository opens three = omega arith

  has_runs : (found : Found) → Opens a b (Ok found) → IfSome a.told (HasRuns (length (kinds_of found)))
  has_runs found opens = goes_before a.told b.told (Surveys (kinds_of found)) (HasRuns (length (kinds_of found))) opens.found (λ s t survey.
      let same : t.disk.published ≡ s.disk.published = ap (λ (f : Folder). f.disk.published) survey.settled in
      record {
        repository = subst IsRepository same survey.fits.repository;
        kinds = kinds_of found;
        kinds_are = subst (λ (files : Files). HasKinds files (kinds_of found)) same survey.fits.kinds_are;
        count = refl;
      })

  pub runs_are : (found : Found) (number : ℕ) → Opens a b (Ok found) → length (kinds_of found) ≡ number → IfSome a.told (HasRuns number)
  runs_are found number opens is = subst (λ (n : ℕ). IfSome a.told (HasRuns n)) is (has_runs found opens)

  not_there : (folder : Option Folder) → IsSomeAnd folder (λ s. s.disk.published format_name ≡ None) → IfSome folder (λ s. IsSome (s.disk.published format_name)) → ⊥
  not_there None can there = absurd can
  not_there (Some s) can there = none_or_some (s.disk.published format_name) can there

  -- `init` refuses by a fault alone
  pub init_never : (r : Refusal) → Inits a b (Err r) → IsSomeAnd a.told (λ s. s.disk.published format_name ≡ None) → refusal_exit_status r ≡ 4
  init_never r (stops init_fault.Exists is step) can = absurd (not_there a.told can (goes_before a.told b.told (InitFails init_fault.Exists) (λ s. IsSome (s.disk.published format_name)) step.refused (λ s t fails. fails.0)))
  init_never r (stops (init_fault.Shelf call) is step) can =
      let same : r ≡ refusal.Init (init_fault.Shelf call) = cc in
      ap refusal_exit_status same
  init_never r (goes_on done m step gives) can = absurd (gives_not m b r gives)

-- ---- `load`

not_long : (left : Option (List ℕ)) → IsSomeAnd left (λ bytes. length bytes ≤ most_bytes) → IfSome left (λ bytes. most_bytes < length bytes) → ⊥
not_long None short long = absurd short
not_long (Some told) short long = omega (arith, short, long)

-- the input alone
input_never : (a b : Work) (fault : RecordFault) → Records (fed a.folder a.input) (fed b.folder b.input) (Err fault) → IsSomeAnd a.input.told (λ bytes. length bytes ≤ most_bytes) → record_exit_status fault ≡ 3 → ⊥
input_never a b (record_fault.Shelf call) records short three = omega arith
input_never a b record_fault.Input records short three = omega arith
input_never a b record_fault.TooLong records short three = not_long a.input.told short records.refused.0
input_never a b record_fault.Site records short three = records.refused
input_never a b (record_fault.NoFile name) records short three = records.refused
input_never a b (record_fault.FileTooLong name) records short three = records.refused
input_never a b record_fault.NoMemory records short three = omega arith

abbrev pub IsShort : Files → List ℕ → Type 0
IsShort files name = IsSomeAnd (files name) (λ bytes. length bytes ≤ most_bytes)

-- what is among the names is there, and not too long
pub short_at : (files : Files) (done : List (List ℕ)) (name : List ℕ) (rest : List (List ℕ)) → All (IsShort files) (done ++ name ∷ rest) → IsShort files name
short_at files [] name rest all = All-head (IsShort files) name rest all
short_at files (first ∷ done) name rest all = short_at files done name rest (All-tail (IsShort files) first (done ++ name ∷ rest) all)

pub not_absent : (file : Option (List ℕ)) → IsSomeAnd file (λ bytes. length bytes ≤ most_bytes) → file ≡ None → ⊥
not_absent None short none = short
not_absent (Some bytes) short none = cc

pub not_both : (file : Option (List ℕ)) → IsSomeAnd file (λ bytes. length bytes ≤ most_bytes) → IsSomeAnd file (λ bytes. most_bytes < length bytes) → ⊥
not_both None short long = short
not_both (Some bytes) short long = omega (arith, short, long)

module _ (names : List (List ℕ)) (told : Option Files) (all : IsSomeAnd told (λ files. All (IsShort files) names)) where
  file_there : (done : List (List ℕ)) (name : List ℕ) (rest : List (List ℕ)) → names ≡ done ++ name ∷ rest → IfSome told (λ files. files name ≡ None) → ⊥
  file_there done name rest is none = by told all none
    where
      by : (o : Option Files) → IsSomeAnd o (λ files. All (IsShort files) names) → IfSome o (λ files. files name ≡ None) → ⊥
      by None all none = all
      by (Some files) all none = not_absent (files name) (short_at files done name rest (subst (All (IsShort files)) is all)) none

  file_short : (done : List (List ℕ)) (name : List ℕ) (rest : List (List ℕ)) → names ≡ done ++ name ∷ rest → IfSome told (λ files. IsSomeAnd (files name) (λ bytes. most_bytes < length bytes)) → ⊥
  file_short done name rest is long = by told all long
    where
      by : (o : Option Files) → IsSomeAnd o (λ files. All (IsShort files) names) → IfSome o (λ files. IsSomeAnd (files name) (λ bytes. most_bytes < length bytes)) → ⊥
      by None all long = all
      by (Some files) all long = not_both (files name) (short_at files done name rest (subst (All (IsShort files)) is all)) long

-- the files that are named
files_never : (names : List (List ℕ)) (a b : Filed) (fault : RecordFault) → HasFilesCause names a b fault → IsSomeAnd a.site.told (λ files. All (IsShort files) names) → record_exit_status fault ≡ 3 → ⊥
files_never names a b fault (inr (is, none)) all three =
    let five : record_exit_status fault ≡ 5 = ap record_exit_status is in
    omega (arith, five, three)
files_never names a b (record_fault.Shelf call) (inl stop) all three = omega arith
files_never names a b record_fault.Input (inl stop) all three = stop.cause
files_never names a b record_fault.TooLong (inl stop) all three = stop.cause
files_never names a b record_fault.Site (inl stop) all three = omega arith
files_never names a b (record_fault.NoFile name) (inl stop) all three = file_there names a.site.told all stop.done stop.name stop.rest stop.names_are (subst (λ (o : Option Files). IfSome o (λ files. files stop.name ≡ None)) stop.recorded.files stop.cause.1)
files_never names a b (record_fault.FileTooLong name) (inl stop) all three = file_short names a.site.told all stop.done stop.name stop.rest stop.names_are (subst (λ (o : Option Files). IfSome o (λ files. IsSomeAnd (files stop.name) (λ bytes. most_bytes < length bytes))) stop.recorded.files stop.cause.1)
files_never names a b record_fault.NoMemory (inl stop) all three = omega arith

record_never : (names : List (List ℕ)) (a b : Work) (fault : RecordFault) → RecordsSources names a b (Err fault) → HasSources names a → record_exit_status fault ≡ 3 → ⊥
record_never [] a b fault step short three = input_never a b fault step.at short three
record_never (name ∷ names) a b fault step short three = files_never (name ∷ names) (filed a.folder a.site) (filed b.folder b.site) fault step.at.refused short three

sources_still : (names : List (List ℕ)) (a m : Work) → m.input ≡ a.input → m.site ≡ a.site → HasSources names a → HasSources names m
sources_still [] a m input site short = subst (λ (s : Seen (List ℕ)). IsSomeAnd s.told (λ bytes. length bytes ≤ most_bytes)) (sym input) short
sources_still (name ∷ names) a m input site short = subst (λ (s : Seen Files). IsSomeAnd s.told (λ files. All (IsShort files) (name ∷ names))) (sym site) short

pub load_never : (options : LoadOptions) (names : List (List ℕ)) (a b : Work) (r : Refusal) → Loads options names a b (Err r) → CanLoad names a → refusal_exit_status r ≡ 3 → ⊥
load_never options names a b r (stops fault is step) can three =
    let same : r ≡ refusal.Open fault = cc in
    open_never a.folder b.folder fault (takes_in_repository a.folder.told can.free) step.at (sym (ap refusal_exit_status same) ∙ three)
load_never options names a b r (goes_on found m opened (stops fault is step)) can three = not_full a.folder.told can.free (runs_are a.folder m.folder found most_runs opened.at step.says.full.1)
load_never options names a b r (goes_on found m opened (goes_on _ m2 took (stops fault is step))) can three = other (refusal.Keep fault) r is (λ s. omega arith) three
load_never options names a b r (goes_on found m opened (goes_on _ m2 took (goes_on _ m3 begun (stops fault is step)))) can three =
    let input : m3.input ≡ a.input = (λ i. (begun.rest i).input) ∙ (λ i. (took.same i).input) ∙ (λ i. (opened.rest i).input) in
    let site : m3.site ≡ a.site = (λ i. (begun.rest i).site) ∙ (λ i. (took.same i).site) ∙ (λ i. (opened.rest i).site) in
    let same : r ≡ refusal.Record fault = cc in
    record_never names m3 b fault step (sources_still names a m3 input site can.short) (sym (ap refusal_exit_status same) ∙ three)
load_never options names a b r (goes_on found m opened (goes_on _ m2 took (goes_on _ m3 begun (goes_on rows m4 recorded (stops fault is step))))) can three = other (refusal.Memory fault) r is (λ s. omega arith) three
load_never options names a b r (goes_on found m opened (goes_on _ m2 took (goes_on _ m3 begun (goes_on rows m4 recorded (goes_on report m5 told (stops fault is step)))))) can three = other (refusal.Keep fault) r is (λ s. omega arith) three
load_never options names a b r (goes_on found m opened (goes_on _ m2 took (goes_on _ m3 begun (goes_on rows m4 recorded (goes_on report m5 told (goes_on _ m6 kept (stops tell_fault.Shelf is step))))))) can three = other (refusal.Refresh tell_fault.Shelf) r is (λ s. omega arith) three
load_never options names a b r (goes_on found m opened (goes_on _ m2 took (goes_on _ m3 begun (goes_on rows m4 recorded (goes_on report m5 told (goes_on _ m6 kept (stops tell_fault.NoMemory is step))))))) can three = other (refusal.Refresh tell_fault.NoMemory) r is (λ s. omega arith) three
load_never options names a b r (goes_on found m opened (goes_on _ m2 took (goes_on _ m3 begun (goes_on rows m4 recorded (goes_on report m5 told (goes_on _ m6 kept (goes_on _ m7 refreshed (stops fault is step)))))))) can three = other (refusal.Print fault) r is (λ s. omega arith) three
load_never options names a b r (goes_on found m opened (goes_on _ m2 took (goes_on _ m3 begun (goes_on rows m4 recorded (goes_on report m5 told (goes_on _ m6 kept (goes_on _ m7 refreshed (goes_on _ m8 printed gives)))))))) can three = gives_not m8 b r gives

-- ---- questions

-- a text that is found and printed is refused by no name
print_never : (question : Question) (a b : Shown) (r : Refusal) → PrintsAnswer question a b (Err r) → refusal_exit_status r ≡ 3 → ⊥
print_never question a b r (stops tell_fault.Shelf is step) three = other (refusal.Tell tell_fault.Shelf) r is (λ s. omega arith) three
print_never question a b r (stops tell_fault.NoMemory is step) three = other (refusal.Tell tell_fault.NoMemory) r is (λ s. omega arith) three
print_never question a b r (goes_on told m found_it (stops fault is step)) three = other (refusal.Print fault) r is (λ s. omega arith) three
print_never question a b r (goes_on told m found_it (goes_on _ m2 printed gives)) three = gives_not m2 b r gives

-- nor is a copy
copy_never : (found : Found) (a b : Shown) (r : Refusal) → CopiesLast found a b (Err r) → refusal_exit_status r ≡ 3 → ⊥
copy_never found a b r (stops (copy_fault.Read tell_fault.Shelf) is step) three = other (refusal.Tell tell_fault.Shelf) r is (λ s. omega arith) three
copy_never found a b r (stops (copy_fault.Read tell_fault.NoMemory) is step) three = other (refusal.Tell tell_fault.NoMemory) r is (λ s. omega arith) three
copy_never found a b r (stops (copy_fault.Write fault) is step) three = other (refusal.Print fault) r is (λ s. omega arith) three
copy_never found a b r (goes_on _ m copied gives) three = gives_not m b r gives

answer_never : (found : Found) (question : Question) (a b : Shown) (r : Refusal) → AnswersOf found question a b (Err r) → refusal_exit_status r ≡ 3 → ⊥
answer_never found question a b r answers three = elim (either found a b (Err r) question answers) [
  | inl (is, copies) ↦ copy_never found a b r copies three
  | inr prints ↦ print_never question a b r prints three
]

pub ask_never : (question : Question) (site : Seen Files) (spawner : Seen Spawning) (input : Seen (List ℕ)) (a b : Shown) (r : Refusal) → Asks question a b (Err r) → CanAsk question (of_shown site spawner input a) → refusal_exit_status r ≡ 3 → ⊥
ask_never question site spawner input a b r (stops fault is step) can three =
    let same : r ≡ refusal.Open fault = cc in
    open_never a.folder b.folder fault can.repository step.at (sym (ap refusal_exit_status same) ∙ three)
ask_never question site spawner input a b r (goes_on found m opened (stops fault is step)) can three = not_empty a.folder.told (can.some step.says.none.1) (runs_are a.folder m.folder found 0 opened.at step.says.none.2)
ask_never question site spawner input a b r (goes_on found m opened (goes_on _ m2 had answers)) can three = answer_never found question m2 b r answers three
