-- What each step keeps, and what is true where it refuses.
use Rattle.std.proofs.Common.{◌≡◌, inl, inr, ℕ, Bool, true, false, cond, Option, None, Some, Result, Ok, Err, List, [], ◌∷◌, refl, sym, ap, subst, ◌∙◌}
use Rattle.outcome_fold.specs.declared.row.Row.{Row}
use Rattle.edge_io.specs.Causes.{Rose, RisesExactlyIf}
use Rattle.sub_number.specs.declared.memory.NoMemory.{NoMemory}
use Rattle.run_shelf.specs.declared.faults.InitFault.{InitFault}
use Rattle.run_shelf.specs.declared.faults.OpenFault.{OpenFault}
use Rattle.run_shelf.specs.declared.found.Found.{Found}
use Rattle.command_steps.specs.Outside.{Work, fed, filed, work_folder, work_fed, work_filed, work_out, Place, in_folder, SameCounts, RisesAt}
use Rattle.command_steps.specs.Files.{RecordsSources, HasFilesCause, StopsAtFile, NoneFailedFiling as NoFileFailed}
use Rattle.command_steps.proofs.FilesLemmas.{counts_then as files_counts}
use Rattle.testr_commands.specs.Answer.{IsChildFault}
use Rattle.command_steps.specs.Refusals.{fault_place_of}
use Rattle.command_steps.specs.Steps.{Gives}
use Rattle.command_steps.specs.Store.{Makes, Opens, Begins, Keeps}
use Rattle.command_steps.specs.Recording.{Records, NoneFailed}
use Rattle.command_steps.specs.Refreshing.{Refreshes}
use Rattle.command_steps.specs.Reporting.{Prints}
use Rattle.command_steps.specs.Told.{FindsAnswer}
use Rattle.testr_words.specs.declared.command.Question.{Question}
use Rattle.command_steps.specs.declared.store.RunsFault.{RunsFault}
use Rattle.command_steps.specs.declared.store.KeepFault.{KeepFault}
use Rattle.command_steps.specs.declared.input_recorder.RecordFault.{RecordFault}
use Rattle.command_steps.specs.declared.input_recorder.RecordFault.TheVariants as record_fault
use Rattle.command_steps.specs.declared.run_report.PrintFault.{PrintFault}
use Rattle.command_steps.specs.declared.question_answers.Told.{Told}
use Rattle.command_steps.specs.declared.question_answers.TellFault.{TellFault}
use Rattle.command_steps.specs.declared.answer.Verdict.{Verdict}
use Rattle.command_steps.specs.declared.answer.Refusal.{Refusal}
use Rattle.command_steps.specs.declared.answer.Refusal.TheVariants as refusal
use Rattle.command_steps.proofs.Resting.{rests_same, rests_of_stays, rests_of_same, open_rests, begin_rests}
use Rattle.testr_commands.proofs.RefusalLemmas.{IsNoUsage, init_place, open_place, tell_place, refresh_place}
use Rattle.testr_commands.proofs.ChainLemmas.{IsQuiet, IsRefused}

module _ (a b : Work) where
  -- ---- where one part alone is touched

  pub folder_same : b ≡ work_folder.put a b.folder → b.folder.faults ≡ a.folder.faults → SameCounts a b
  folder_same rest count = record { folder = count; site = λ i. (rest i).site.faults; spawner = λ i. (rest i).spawner.faults; input = λ i. (rest i).input.faults; out = λ i. (rest i).out.faults }

  folder_rises : b ≡ work_folder.put a b.folder → Rose a.folder.faults b.folder.faults → RisesAt (Some in_folder) a b
  folder_rises rest rose = (rose, (λ i. (rest i).site.faults), (λ i. (rest i).spawner.faults), (λ i. (rest i).input.faults), (λ i. (rest i).out.faults))

  pub folder_counts : (failed : Bool) → RisesExactlyIf a.folder.faults b.folder.faults failed → b ≡ work_folder.put a b.folder → RisesAt (cond failed (Some in_folder) None) a b
  folder_counts true count rest = folder_rises rest (count.rose refl)
  folder_counts false count rest = folder_same rest (count.stands refl)

  out_same : b ≡ work_out.put a b.out → b.out.faults ≡ a.out.faults → SameCounts a b
  out_same rest count = record { folder = λ i. (rest i).folder.faults; site = λ i. (rest i).site.faults; spawner = λ i. (rest i).spawner.faults; input = λ i. (rest i).input.faults; out = count }

  by_folder : b.folder ≡ a.folder → IsQuiet a b
  by_folder same = rests_same a.folder.told b.folder.told (λ i. (same i).told)

  -- ---- steps that touch nothing

  pub still_counts : b ≡ a → SameCounts a b
  still_counts same = record { folder = λ i. (same i).folder.faults; site = λ i. (same i).site.faults; spawner = λ i. (same i).spawner.faults; input = λ i. (same i).input.faults; out = λ i. (same i).out.faults }

  pub still_quiet : b ≡ a → IsQuiet a b
  still_quiet same = by_folder (λ i. (same i).folder)

  -- a refusal whose place is this
  pub placed : {Starts : Type 0} (r : Refusal) {place : Option Place} → IsNoUsage r → (IsChildFault (Err r) → Starts) → fault_place_of r ≡ place → RisesAt place a b → IsRefused Starts r a b
  placed r named child is rises = record { named = named; counts = subst (λ (p : Option Place). RisesAt p a b) (sym is) rises; child = child }

  -- a refusal behind which no part stands
  pub still_refuses : {Starts : Type 0} (r : Refusal) → IsNoUsage r → (IsChildFault (Err r) → Starts) → fault_place_of r ≡ None → b ≡ a → IsRefused Starts r a b
  still_refuses r named child is same = placed r named child is (still_counts same)

  pub runs_refuse : {Starts : Type 0} (fault : RunsFault) → b ≡ a → IsRefused Starts (refusal.Runs fault) a b
  runs_refuse fault = still_refuses (refusal.Runs fault) tt (λ c. absurd c) refl

  pub memory_refuses : {Starts : Type 0} (fault : NoMemory) → b ≡ a → IsRefused Starts (refusal.Memory fault) a b
  memory_refuses fault = still_refuses (refusal.Memory fault) tt (λ c. absurd c) refl

  -- ---- steps of the folder

  pub make_counts : (done : Unit {0}) → Makes a.folder b.folder (Ok done) → b ≡ work_folder.put a b.folder → SameCounts a b
  make_counts done makes rest = folder_same rest (makes.count.stands refl)

  pub make_refuses : {Starts : Type 0} (fault : InitFault) → Makes a.folder b.folder (Err fault) → b ≡ work_folder.put a b.folder → IsRefused Starts (refusal.Init fault) a b
  make_refuses fault makes rest = placed (refusal.Init fault) tt (λ c. absurd c) (init_place fault) (folder_counts _ makes.count rest)

  pub open_counts : (found : Found) → Opens a.folder b.folder (Ok found) → b ≡ work_folder.put a b.folder → SameCounts a b
  open_counts found opens rest = folder_same rest (opens.count.stands refl)

  pub open_quiet : (result : Result Found OpenFault) → Opens a.folder b.folder result → IsQuiet a b
  open_quiet result opens = open_rests a.folder b.folder result opens

  pub open_refuses : {Starts : Type 0} (fault : OpenFault) → Opens a.folder b.folder (Err fault) → b ≡ work_folder.put a b.folder → IsRefused Starts (refusal.Open fault) a b
  open_refuses fault opens rest = placed (refusal.Open fault) tt (λ c. absurd c) (open_place Found fault) (folder_counts _ opens.count rest)

  pub find_counts : (question : Question) (told : Told) → FindsAnswer question a.folder b.folder (Ok told) → b ≡ work_folder.put a b.folder → SameCounts a b
  find_counts question told finds rest = folder_same rest (finds.count.stands refl)

  pub find_quiet : (question : Question) (result : Result Told TellFault) → FindsAnswer question a.folder b.folder result → IsQuiet a b
  find_quiet question result finds = rests_of_stays a.folder.told b.folder.told finds.same

  pub find_refuses : {Starts : Type 0} (question : Question) (fault : TellFault) → FindsAnswer question a.folder b.folder (Err fault) → b ≡ work_folder.put a b.folder → IsRefused Starts (refusal.Tell fault) a b
  find_refuses question fault finds rest = placed (refusal.Tell fault) tt (λ c. absurd c) (tell_place fault) (folder_counts _ finds.count rest)

  pub begin_counts : (done : Unit {0}) → Begins a.folder b.folder (Ok done) → b ≡ work_folder.put a b.folder → SameCounts a b
  begin_counts done begins rest = folder_same rest begins.count.done

  pub begin_quiet : (result : Result (Unit {0}) KeepFault) → Begins a.folder b.folder result → IsQuiet a b
  begin_quiet result begins = begin_rests a.folder b.folder result begins

  pub begin_refuses : {Starts : Type 0} (fault : KeepFault) → Begins a.folder b.folder (Err fault) → b ≡ work_folder.put a b.folder → IsRefused Starts (refusal.Keep fault) a b
  begin_refuses fault begins rest = placed (refusal.Keep fault) tt (λ c. absurd c) refl (folder_rises rest begins.count.failed)

  pub keep_counts : (partial : Bool) (number : ℕ) (done : Unit {0}) → Keeps partial number a.folder b.folder (Ok done) → b ≡ work_folder.put a b.folder → SameCounts a b
  keep_counts partial number done keeps rest = folder_same rest keeps.count.done

  pub keep_refuses : {Starts : Type 0} (partial : Bool) (number : ℕ) (fault : KeepFault) → Keeps partial number a.folder b.folder (Err fault) → b ≡ work_folder.put a b.folder → IsRefused Starts (refusal.Keep fault) a b
  keep_refuses partial number fault keeps rest = placed (refusal.Keep fault) tt (λ c. absurd c) refl (folder_rises rest keeps.count.failed)

  pub refresh_counts : (number : ℕ) (rows : List Row) (done : Unit {0}) → Refreshes number rows a.folder b.folder (Ok done) → b ≡ work_folder.put a b.folder → SameCounts a b
  refresh_counts number rows done refreshes rest = folder_same rest (refreshes.count.stands refl)

  pub refresh_refuses : {Starts : Type 0} (number : ℕ) (rows : List Row) (fault : TellFault) → Refreshes number rows a.folder b.folder (Err fault) → b ≡ work_folder.put a b.folder → IsRefused Starts (refusal.Refresh fault) a b
  refresh_refuses number rows fault refreshes rest = placed (refusal.Refresh fault) tt (λ c. absurd c) (refresh_place fault) (folder_counts _ refreshes.count rest)

  -- ---- the step of the sources and the draft

  fed_same : b ≡ work_fed.put a (fed b.folder b.input) → NoneFailed (fed a.folder a.input) (fed b.folder b.input) → SameCounts a b
  fed_same rest none = record { folder = none.folder; site = λ i. (rest i).site.faults; spawner = λ i. (rest i).spawner.faults; input = none.input; out = λ i. (rest i).out.faults }

  filed_same : b ≡ work_filed.put a (filed b.folder b.site) → NoFileFailed (filed a.folder a.site) (filed b.folder b.site) → SameCounts a b
  filed_same rest none = record { folder = none.folder; site = none.site; spawner = λ i. (rest i).spawner.faults; input = λ i. (rest i).input.faults; out = λ i. (rest i).out.faults }

  pub record_counts : (names : List (List ℕ)) (rows : List Row) → RecordsSources names a b (Ok rows) → SameCounts a b
  record_counts [] rows step = fed_same step.rest step.at.recorded.counts
  record_counts (name ∷ names) rows step = filed_same step.rest step.at.recorded.recorded.counts

  pub record_quiet : (names : List (List ℕ)) (result : Result (List Row) RecordFault) → RecordsSources names a b result → IsQuiet a b
  record_quiet [] result step = rests_of_same a.folder.told b.folder.told step.at.rests
  record_quiet (name ∷ names) result step = rests_of_same a.folder.told b.folder.told step.at.rests

  recorded : {Starts : Type 0} (fault : RecordFault) → RisesAt (fault_place_of (refusal.Record fault)) a b → IsRefused Starts (refusal.Record fault) a b
  recorded fault rises = record { named = tt; counts = rises; child = λ c. absurd c }

  input_rises : (fault : RecordFault) → Records (fed a.folder a.input) (fed b.folder b.input) (Err fault) → b ≡ work_fed.put a (fed b.folder b.input) → RisesAt (fault_place_of (refusal.Record fault)) a b
  input_rises (record_fault.Shelf call) records rest = (records.refused.0, (λ i. (rest i).site.faults), (λ i. (rest i).spawner.faults), records.refused.1, (λ i. (rest i).out.faults))
  input_rises record_fault.Input records rest = (records.refused.0, records.refused.1, (λ i. (rest i).site.faults), (λ i. (rest i).spawner.faults), (λ i. (rest i).out.faults))
  input_rises record_fault.TooLong records rest = fed_same rest records.refused.1
  input_rises record_fault.Site records rest = absurd records.refused
  input_rises (record_fault.NoFile name) records rest = absurd records.refused
  input_rises (record_fault.FileTooLong name) records rest = absurd records.refused
  input_rises record_fault.NoMemory records rest = fed_same rest records.refused.0

  module _ (names : List (List ℕ)) (rest : b ≡ work_filed.put a (filed b.folder b.site)) where
    file_rises : (fault : RecordFault) → StopsAtFile names (filed a.folder a.site) (filed b.folder b.site) fault → RisesAt (fault_place_of (refusal.Record fault)) a b
    file_rises (record_fault.Shelf call) stop = (subst (λ (n : ℕ). Rose n b.folder.faults) stop.recorded.counts.folder stop.cause.0, stop.cause.1 ∙ stop.recorded.counts.site, (λ i. (rest i).spawner.faults), (λ i. (rest i).input.faults), (λ i. (rest i).out.faults))
    file_rises record_fault.Input stop = absurd stop.cause
    file_rises record_fault.TooLong stop = absurd stop.cause
    file_rises record_fault.Site stop = (subst (λ (n : ℕ). Rose n b.site.faults) stop.recorded.counts.site stop.cause.0, stop.cause.1 ∙ stop.recorded.counts.folder, (λ i. (rest i).spawner.faults), (λ i. (rest i).input.faults), (λ i. (rest i).out.faults))
    file_rises (record_fault.NoFile name) stop = filed_same rest (files_counts _ _ _ stop.recorded.counts stop.cause.2)
    file_rises (record_fault.FileTooLong name) stop = filed_same rest (files_counts _ _ _ stop.recorded.counts stop.cause.2)
    file_rises record_fault.NoMemory stop = filed_same rest (files_counts _ _ _ stop.recorded.counts stop.cause)

    files_rise : (fault : RecordFault) → HasFilesCause names (filed a.folder a.site) (filed b.folder b.site) fault → RisesAt (fault_place_of (refusal.Record fault)) a b
    files_rise fault (inl stop) = file_rises fault stop
    files_rise fault (inr (is, none)) = subst (λ (f : RecordFault). RisesAt (fault_place_of (refusal.Record f)) a b) (sym is) (filed_same rest none)

  pub record_refuses : {Starts : Type 0} (names : List (List ℕ)) (fault : RecordFault) → RecordsSources names a b (Err fault) → IsRefused Starts (refusal.Record fault) a b
  record_refuses [] fault step = recorded fault (input_rises fault step.at step.rest)
  record_refuses (name ∷ names) fault step = recorded fault (files_rise (name ∷ names) step.rest fault step.at.refused)

  -- ---- the step of the output

  pub print_counts : (text : List ℕ) (done : Unit {0}) → Prints text a.out b.out (Ok done) → b ≡ work_out.put a b.out → SameCounts a b
  print_counts text done prints rest = out_same rest prints.count.done

  pub print_quiet : b ≡ work_out.put a b.out → IsQuiet a b
  print_quiet rest = by_folder (λ i. (rest i).folder)

  pub print_refuses : {Starts : Type 0} (text : List ℕ) (fault : PrintFault) → Prints text a.out b.out (Err fault) → b ≡ work_out.put a b.out → IsRefused Starts (refusal.Print fault) a b
  print_refuses text fault prints rest = placed (refusal.Print fault) tt (λ c. absurd c) refl (prints.count.failed, (λ i. (rest i).folder.faults), (λ i. (rest i).site.faults), (λ i. (rest i).spawner.faults), (λ i. (rest i).input.faults))

-- ---- chains that end

module _ {W : Type 0} (see : W → Work) {verdict : Verdict} where
  pub gives_quiet : (a b : W) (result : Result Verdict Refusal) → Gives verdict a b result → IsQuiet (see a) (see b)
  gives_quiet a b result gives = still_quiet (see a) (see b) (ap see gives.same)

  pub gives_counts : (a b : W) (v : Verdict) → Gives {R = Refusal} verdict a b (Ok v) → SameCounts (see a) (see b)
  gives_counts a b v gives = still_counts (see a) (see b) (ap see gives.same)
