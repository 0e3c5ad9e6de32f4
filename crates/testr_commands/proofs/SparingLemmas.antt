-- That runs are spared, by how many calls of the folder there were.
use Rattle.std.proofs.Common.{◌≡◌, ℕ, ◌+◌, Bool, true, false, Option, None, Some, List, ◌∷◌, length, sym, ap, subst, ◌∙◌, arith}
use Rattle.std.specs.Prelude.{⊤, nat_le, option_map, if◌then◌else◌}
use Rattle.edge_io.specs.Disk.{Files, Folder}
use Rattle.edge_io.specs.Steps.{Goes}
use Rattle.run_shelf.specs.Looking.{base_calls}
use Rattle.run_shelf.specs.Outcomes.{Surveys, TicksUpTo}
use Rattle.run_shelf.specs.Repository.{Shows, IsRepository}
use Rattle.run_shelf.specs.Sides.{cache_file_name}
use Rattle.run_shelf.specs.declared.cache_file.CacheFile.TheVariants.{Failing}
use Rattle.run_ledger.specs.Caches.{IsSound}
use Rattle.testr_words.specs.Drawings.{drawing_of}
use Rattle.testr_words.specs.Questions.{OfBytes}
use Rattle.testr_commands.specs.Sparing.{LooksOnly, SparesReads}
use Rattle.command_steps.specs.Calls.{SparesRuns, SparesFor}
use Rattle.testr_words.specs.Tasks.{Task, load, ask, list as listing, run as running, selftest, task_with, quiet_of, forces_for, report_question, failing_question}
use Rattle.testr_words.specs.Words.{face_word, asked_by}
use Rattle.testr_words.proofs.WordsLemmas.{same_face}
use Rattle.testr_words.specs.declared.command.Command.{Command}
use Rattle.testr_words.specs.declared.command.Face.{Face}
use Rattle.testr_words.specs.declared.command.Question.{Question}
use Rattle.testr_words.specs.declared.command.Question.TheVariants.{Last as AsksLast, Failing as AsksFailing}
use Rattle.testr_words.specs.declared.command.Verb.{Verb}
use Rattle.testr_words.specs.declared.command.Verb.TheVariants as verb
use Rattle.testr_words.specs.declared.selftest_words.SelfTestWords.{SelfTestWords}
use Rattle.testr_words.specs.declared.format.FormatKind.{FormatKind}
use Rattle.testr_words.specs.declared.format.FormatKind.TheVariants.{Plain, Github}
use Rattle.testr_words.specs.Suites.{load_options}

-- so few calls, and no read behind them
pub few_spare : (calls : ℕ) (told : Option Folder) (before now : ℕ) → TicksUpTo calls before now → SparesRuns calls told before now
few_spare calls None before now few = λ sound. tt
few_spare calls (Some s) before now few = λ sound covers ids holds runs shown. omega (arith, few)

-- the folder was looked at, and that is all
pub looked : (told : Option Folder) (before now : ℕ) → TicksUpTo (4 + base_calls told) before now → LooksOnly told before now
looked None before now few = tt
looked (Some s) before now few = λ none. few

-- the look found a repository
pub found : (kinds : List Bool) (told opened : Option Folder) (before now : ℕ) → Goes told opened (Surveys kinds) → LooksOnly told before now
found kinds None opened before now survey = tt
found kinds (Some s) None before now survey = absurd survey
found kinds (Some s) (Some t) before now survey = λ none.
    let same : t.disk.published ≡ s.disk.published = ap (λ (x : Folder). x.disk.published) survey.settled in
    absurd (none (subst IsRepository same survey.fits.repository))

-- no call
pub none_spare : (asked : Option Task) (told : Option Folder) (before now : ℕ) → now ≡ before → SparesReads asked told before now
none_spare asked told before now same = record {
  failing = λ list is. few_spare (6 + base_calls told) told before now (omega (arith, same));
  looks = λ question is. looked told before now (omega (arith, same));
}

-- the folder was opened, and that is all
pub opens_spare : (told : Option Folder) (before now : ℕ) → TicksUpTo (4 + base_calls told) before now → SparesRuns (6 + base_calls told) told before now
opens_spare told before now few = few_spare (6 + base_calls told) told before now (omega (arith, few))

-- The folder was opened, and then the failing set was told of it. The files that are read are as they were.
pub opened_spare : (kinds : List Bool) (told opened : Option Folder) (before middle now : ℕ) → Goes told opened (Surveys kinds) → TicksUpTo (4 + base_calls told) before middle → SparesRuns 2 opened middle now → SparesRuns (6 + base_calls told) told before now
opened_spare kinds None None before middle now survey few spares = λ sound. tt
opened_spare kinds None (Some t) before middle now survey few spares = absurd survey
opened_spare kinds (Some s) None before middle now survey few spares = absurd survey
opened_spare kinds (Some s) (Some t) before middle now survey few spares = λ sound covers ids holds runs shown.
    let same : t.disk.published ≡ s.disk.published = ap (λ (x : Folder). x.disk.published) survey.settled in
    let file = ap (λ (files : Files). files (cache_file_name Failing)) same ∙ holds.file in
    let reads = spares (subst IsSound (sym same) sound) covers ids (record { bytes = holds.bytes; file = file; form = holds.form }) runs (subst (λ (files : Files). Shows files runs) (sym same) shown) in
    omega (arith, few, reads)

-- a question of bytes is not that of the failing set
pub bytes_spare : (calls : ℕ) (question : Question) (told : Option Folder) (before now : ℕ) → OfBytes question → SparesFor calls question told before now
bytes_spare calls question told before now of list is = absurd (subst OfBytes is of)

-- a verb that asks for no failing set
abbrev pub IsOther : Verb → Type 0
IsOther verb.Failing = ⊥
IsOther other = ⊤

no_load : (few : Bool) (c : Command) (list : Bool) → (if few then Some (load (load_options c) c.names) else None) ≡ Some (ask (AsksFailing list)) → ⊥
no_load true c list is = cc
no_load false c list is = cc

no_drawn : (drawn : Option SelfTestWords) (question : Question) → option_map selftest drawn ≡ Some (ask question) → ⊥
no_drawn None question is = cc
no_drawn (Some drawing) question is = cc

no_last : (subunit : Bool) (format : FormatKind) (skips list : Bool) → Some (ask (if subunit then AsksLast true else report_question format skips)) ≡ Some (ask (AsksFailing list)) → ⊥
no_last true format skips list is = cc
no_last false Github skips list is = cc
no_last false Plain true list is = cc
no_last false Plain false list is = cc

not_asked : (folder : List ℕ) (v : Verb) (c : Command) (list : Bool) → IsOther v → task_with folder v c ≡ Some (ask (AsksFailing list)) → ⊥
not_asked folder verb.Load c list other is = no_load (nat_le (length c.names) 64) c list is
not_asked folder verb.Last c list other is = no_last c.subunit c.format c.skips list is
not_asked folder verb.Failing c list other is = other
not_asked folder verb.SelfTest c list other is = no_drawn (drawing_of c) (AsksFailing list) is
not_asked folder v c list other is = cc

-- a question, but not that of the failing set
pub other_spare : (folder : List ℕ) (v : Verb) {w : Verb} (c : Command) (told : Option Folder) (before now : ℕ) → v ≡ w → IsOther w → LooksOnly told before now → SparesReads (task_with folder v c) told before now
other_spare folder v c told before now is other looks = record {
  failing = λ list asks. absurd (not_asked folder v c list (subst IsOther (sym is) other) asks);
  looks = λ question asks. looks;
}

asks_same : (one other : Question) → Some (ask one) ≡ Some (ask other) → one ≡ other
asks_same one other is = cc

-- a question that may be that of the failing set
pub failing_spare : (folder : List ℕ) (v : Verb) (c : Command) (question : Question) (told : Option Folder) (before now : ℕ) → v ≡ verb.Failing → question ≡ failing_question c → SparesFor (6 + base_calls told) question told before now → LooksOnly told before now → SparesReads (task_with folder v c) told before now
failing_spare folder v c question told before now is asked spares looks = record {
  failing = λ list asks. spares list (asked ∙ asks_same (failing_question c) (AsksFailing list) (sym (ap (λ w. task_with folder w c) is) ∙ asks));
  looks = λ question asks. looks;
}

-- a verb that asks nothing
abbrev pub AsksNothing : Verb → Type 0
AsksNothing verb.Init = ⊤
AsksNothing verb.Load = ⊤
AsksNothing verb.Run = ⊤
AsksNothing verb.ListTests = ⊤
AsksNothing verb.SelfTest = ⊤
AsksNothing verb.Upgrade = ⊤
AsksNothing question = ⊥

no_question : (few : Bool) (c : Command) (question : Question) → (if few then Some (load (load_options c) c.names) else None) ≡ Some (ask question) → ⊥
no_question true c question is = cc
no_question false c question is = cc

nothing_asked : (folder : List ℕ) (v : Verb) (c : Command) (question : Question) → AsksNothing v → task_with folder v c ≡ Some (ask question) → ⊥
nothing_asked folder verb.Init c question silent is = cc
nothing_asked folder verb.Load c question silent is = no_question (nat_le (length c.names) 64) c question is
nothing_asked folder verb.Run c question silent is = cc
nothing_asked folder verb.ListTests c question silent is = cc
nothing_asked folder verb.SelfTest c question silent is = no_drawn (drawing_of c) question is
nothing_asked folder verb.Upgrade c question silent is = cc
nothing_asked folder asks c question silent is = silent

pub silent_spare : (folder : List ℕ) (v : Verb) {w : Verb} (c : Command) (told : Option Folder) (before now : ℕ) → v ≡ w → AsksNothing w → SparesReads (task_with folder v c) told before now
silent_spare folder v c told before now is silent = record {
  failing = λ list asks. absurd (nothing_asked folder v c (AsksFailing list) (subst AsksNothing (sym is) silent) asks);
  looks = λ question asks. absurd (nothing_asked folder v c question (subst AsksNothing (sym is) silent) asks);
}

-- a task for which a repository is made first asks nothing
forced_asks : (force : Bool) (asked : Option Task) (question : Question) → forces_for force asked ≡ true → asked ≡ Some (ask question) → ⊥
forced_asks force asked question forced is =
    let other : false ≡ true = ap (forces_for force) (sym is) ∙ forced in
    cc

pub forced_spare : (force : Bool) (asked : Option Task) (told : Option Folder) (before now : ℕ) → forces_for force asked ≡ true → SparesReads asked told before now
forced_spare force asked told before now forced = record {
  failing = λ list is. absurd (forced_asks force asked (AsksFailing list) forced is);
  looks = λ question is. absurd (forced_asks force asked question forced is);
}

-- what is done where nothing can be started is done anyway
quiet_forced : (force : Bool) (asked : Option Task) → forces_for force (quiet_of asked) ≡ true → forces_for force asked ≡ true
quiet_forced force (Some (running options)) forced = cc
quiet_forced force (Some (listing patterns)) forced = cc
quiet_forced force (Some (selftest drawing)) forced = cc
quiet_forced force asked forced = forced

pub quiet_spare : (force : Bool) (asked : Option Task) (told : Option Folder) (before now : ℕ) → forces_for force (quiet_of asked) ≡ true → SparesReads asked told before now
quiet_spare force asked told before now forced = forced_spare force asked told before now (quiet_forced force asked forced)

-- what the words ask for is the command's task
pub read_spare : {asked read : Option Task} → asked ≡ read → (told : Option Folder) (before now : ℕ) → SparesReads asked told before now → SparesReads read told before now
read_spare is told before now spares = subst (λ (o : Option Task). SparesReads o told before now) is spares

-- the words behind the same name
pub behind_spare : (folder : List ℕ) (face given : Face) (rest behind : List (List ℕ)) (told : Option Folder) (before now : ℕ) → face_word face ∷ rest ≡ face_word given ∷ behind → SparesReads (asked_by folder face rest) told before now → SparesReads (asked_by folder given behind) told before now
behind_spare folder face given rest behind told before now is spares =
    let same : rest ≡ behind = cc in
    subst (λ (f : Face). SparesReads (asked_by folder f behind) told before now) (same_face face given rest behind is)
    (subst (λ (l : List (List ℕ)). SparesReads (asked_by folder face l) told before now) same spares)
