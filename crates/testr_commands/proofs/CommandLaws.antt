-- What is true where a command refuses, and at each of its exits, from its chain: one line a step, in the chain's order.
use Rattle.std.proofs.Common.{inl, inr, ℕ, ◌-◌, Bool, List, [], ◌∷◌, length, Ok, Err, ap}
use Rattle.edge_io.specs.Disk.{Files, Folder}
use Rattle.edge_io.specs.Seen.{Seen}
use Rattle.edge_io.specs.Spawners.{Spawning}
use Rattle.run_shelf.specs.declared.found.Found.{Found}
use Rattle.run_shelf.specs.Holds.{kinds_of}
use Rattle.command_steps.specs.Outside.{Work, Shown, work, work_spawner}
use Rattle.command_steps.specs.Files.{RecordsSources}
use Rattle.testr_commands.specs.Init.{Inits}
use Rattle.testr_commands.specs.Load.{Loads}
use Rattle.testr_commands.specs.Ask.{CopiesLast, PrintsAnswer, AnswersOf, Asks}
use Rattle.testr_words.specs.declared.command.Question.{Question}
use Rattle.testr_commands.proofs.AskLemmas.{either}
use Rattle.testr_commands.proofs.CopyLaws.{copy_counts, copy_quiet, copy_refuses}
use Rattle.testr_commands.proofs.ChainLemmas.{KeepsCounts, Quiet, RefusesAs, LeavesPart, then_leaves, then_quiet, then_counts, then_refuses, gives_refuses}
use Rattle.testr_commands.proofs.StepLaws.{still_counts, still_quiet, runs_refuse, memory_refuses, make_counts, make_refuses, open_counts, open_quiet, open_refuses, find_counts, find_quiet, find_refuses, begin_counts, begin_refuses, keep_counts, keep_refuses, refresh_counts, refresh_refuses, record_counts, record_refuses, print_counts, print_quiet, print_refuses, gives_quiet, gives_counts}
use Rattle.testr_words.specs.Suites.{LoadOptions}

abbrev all : Work → Work
all w = w

pub load_refuses : (options : LoadOptions) (names : List (List ℕ)) → RefusesAs all ⊥ (λ r. r) (Loads options names)
load_refuses options names =
    then_refuses all (λ a b v s. open_counts a b v s.at s.rest) (λ a b e s. open_refuses a b e s.at s.rest) (λ found.
    then_refuses all (λ a b v s. still_counts a b s.same) (λ a b e s. runs_refuse a b e s.same) (λ _.
    then_refuses all (λ a b v s. begin_counts a b v s.at s.rest) (λ a b e s. begin_refuses a b e s.at s.rest) (λ _.
    then_refuses all (λ a b v s. record_counts a b names v s) (λ a b e s. record_refuses a b names e s) (λ rows.
    then_refuses all (λ a b v s. still_counts a b s.same) (λ a b e s. memory_refuses a b e s.same) (λ report.
    then_refuses all (λ a b v s. keep_counts a b _ _ v s.at s.rest) (λ a b e s. keep_refuses a b _ _ e s.at s.rest) (λ _.
    then_refuses all (λ a b v s. refresh_counts a b _ rows v s.at s.rest) (λ a b e s. refresh_refuses a b _ rows e s.at s.rest) (λ _.
    then_refuses all (λ a b v s. print_counts a b _ v s.at s.rest) (λ a b e s. print_refuses a b _ e s.at s.rest) (λ _.
    gives_refuses all ⊥))))))))

pub load_counts : (options : LoadOptions) (names : List (List ℕ)) → KeepsCounts all (Loads options names)
load_counts options names =
    then_counts all (λ a b v s. open_counts a b v s.at s.rest) (λ found.
    then_counts all (λ a b v s. still_counts a b s.same) (λ _.
    then_counts all (λ a b v s. begin_counts a b v s.at s.rest) (λ _.
    then_counts all (λ a b v s. record_counts a b names v s) (λ rows.
    then_counts all (λ a b v s. still_counts a b s.same) (λ report.
    then_counts all (λ a b v s. keep_counts a b _ _ v s.at s.rest) (λ _.
    then_counts all (λ a b v s. refresh_counts a b _ rows v s.at s.rest) (λ _.
    then_counts all (λ a b v s. print_counts a b _ v s.at s.rest) (λ _.
    gives_counts all))))))))

-- it has no part in the children
recorded_beside : (names : List (List ℕ)) → LeavesPart work_spawner.of (RecordsSources names)
recorded_beside [] a b result step = λ i. (step.rest i).spawner
recorded_beside (name ∷ names) a b result step = λ i. (step.rest i).spawner

pub load_beside : (options : LoadOptions) (names : List (List ℕ)) → LeavesPart work_spawner.of (Loads options names)
load_beside options names =
    then_leaves work_spawner.of (λ a b r s i. (s.rest i).spawner) (λ found.
    then_leaves work_spawner.of (λ a b r s i. (s.same i).spawner) (λ _.
    then_leaves work_spawner.of (λ a b r s i. (s.rest i).spawner) (λ _.
    then_leaves work_spawner.of (recorded_beside names) (λ rows.
    then_leaves work_spawner.of (λ a b r s i. (s.same i).spawner) (λ report.
    then_leaves work_spawner.of (λ a b r s i. (s.rest i).spawner) (λ _.
    then_leaves work_spawner.of (λ a b r s i. (s.rest i).spawner) (λ _.
    then_leaves work_spawner.of (λ a b r s i. (s.rest i).spawner) (λ _ a b r s i.
    (s.same i).spawner))))))))

module _ (site : Seen Files) (spawner : Seen Spawning) (input : Seen (List ℕ)) where
  abbrev pub of_shown : Shown → Work
  of_shown w = work w.folder site spawner input w.out

  find_and_print_refuses : (question : Question) → RefusesAs of_shown ⊥ (λ r. r) (PrintsAnswer question)
  find_and_print_refuses question =
      then_refuses of_shown (λ a b v s. find_counts (of_shown a) (of_shown b) question v s.at (ap of_shown s.rest)) (λ a b e s. find_refuses (of_shown a) (of_shown b) question e s.at (ap of_shown s.rest)) (λ told.
      then_refuses of_shown (λ a b v s. print_counts (of_shown a) (of_shown b) _ v s.at (ap of_shown s.rest)) (λ a b e s. print_refuses (of_shown a) (of_shown b) _ e s.at (ap of_shown s.rest)) (λ _.
      gives_refuses of_shown ⊥))

  find_and_print_counts : (question : Question) → KeepsCounts of_shown (PrintsAnswer question)
  find_and_print_counts question =
      then_counts of_shown (λ a b v s. find_counts (of_shown a) (of_shown b) question v s.at (ap of_shown s.rest)) (λ told.
      then_counts of_shown (λ a b v s. print_counts (of_shown a) (of_shown b) _ v s.at (ap of_shown s.rest)) (λ _.
      gives_counts of_shown))

  find_and_print_quiet : (question : Question) → Quiet of_shown (PrintsAnswer question)
  find_and_print_quiet question =
      then_quiet of_shown (λ a b r s. find_quiet (of_shown a) (of_shown b) question r s.at) (λ told.
      then_quiet of_shown (λ a b r s. print_quiet (of_shown a) (of_shown b) (ap of_shown s.rest)) (λ _.
      gives_quiet of_shown))

  module _ (found : Found) where
    abbrev last : ℕ
    last = length (kinds_of found) - 1

    copy_last_refuses : RefusesAs of_shown ⊥ (λ r. r) (CopiesLast found)
    copy_last_refuses =
        then_refuses of_shown (λ a b v s. copy_counts site spawner input last a b v s) (λ a b e s. copy_refuses site spawner input last a b e s) (λ _.
        gives_refuses of_shown ⊥)

    copy_last_counts : KeepsCounts of_shown (CopiesLast found)
    copy_last_counts =
        then_counts of_shown (λ a b v s. copy_counts site spawner input last a b v s) (λ _.
        gives_counts of_shown)

    copy_last_quiet : Quiet of_shown (CopiesLast found)
    copy_last_quiet =
        then_quiet of_shown (λ a b r s. copy_quiet site spawner input last a b r s) (λ _.
        gives_quiet of_shown)

    answer_refuses : (question : Question) → RefusesAs of_shown ⊥ (λ r. r) (AnswersOf found question)
    answer_refuses question a b e answers = elim (either found a b (Err e) question answers) [
      | inl (is, copies) ↦ copy_last_refuses a b e copies
      | inr prints ↦ find_and_print_refuses question a b e prints
    ]

    answer_counts : (question : Question) → KeepsCounts of_shown (AnswersOf found question)
    answer_counts question a b v answers = elim (either found a b (Ok v) question answers) [
      | inl (is, copies) ↦ copy_last_counts a b v copies
      | inr prints ↦ find_and_print_counts question a b v prints
    ]

    answer_quiet : (question : Question) → Quiet of_shown (AnswersOf found question)
    answer_quiet question a b r answers = elim (either found a b r question answers) [
      | inl (is, copies) ↦ copy_last_quiet a b r copies
      | inr prints ↦ find_and_print_quiet question a b r prints
    ]

  pub ask_refuses : (question : Question) → RefusesAs of_shown ⊥ (λ r. r) (Asks question)
  ask_refuses question =
      then_refuses of_shown (λ a b v s. open_counts (of_shown a) (of_shown b) v s.at (ap of_shown s.rest)) (λ a b e s. open_refuses (of_shown a) (of_shown b) e s.at (ap of_shown s.rest)) (λ found.
      then_refuses of_shown (λ a b v s. still_counts (of_shown a) (of_shown b) (ap of_shown s.same)) (λ a b e s. runs_refuse (of_shown a) (of_shown b) e (ap of_shown s.same)) (λ _.
      answer_refuses found question))

  pub ask_counts : (question : Question) → KeepsCounts of_shown (Asks question)
  ask_counts question =
      then_counts of_shown (λ a b v s. open_counts (of_shown a) (of_shown b) v s.at (ap of_shown s.rest)) (λ found.
      then_counts of_shown (λ a b v s. still_counts (of_shown a) (of_shown b) (ap of_shown s.same)) (λ _.
      answer_counts found question))

  pub ask_quiet : (question : Question) → Quiet of_shown (Asks question)
  ask_quiet question =
      then_quiet of_shown (λ a b r s. open_quiet (of_shown a) (of_shown b) r s.at) (λ found.
      then_quiet of_shown (λ a b r s. still_quiet (of_shown a) (of_shown b) (ap of_shown s.same)) (λ _.
      answer_quiet found question))

  module _ (out : Seen (List ℕ)) where
    abbrev pub of_folder : Seen Folder → Work
    of_folder folder = work folder site spawner input out

    pub init_refuses : RefusesAs of_folder ⊥ (λ r. r) Inits
    init_refuses =
        then_refuses of_folder (λ a b v s. make_counts (of_folder a) (of_folder b) v s (λ i. of_folder b)) (λ a b e s. make_refuses (of_folder a) (of_folder b) e s (λ i. of_folder b)) (λ _.
        gives_refuses of_folder ⊥)

    pub init_counts : KeepsCounts of_folder Inits
    init_counts =
        then_counts of_folder (λ a b v s. make_counts (of_folder a) (of_folder b) v s (λ i. of_folder b)) (λ _.
        gives_counts of_folder)
