-- A line is told first, or no report is printed, and all else goes on: what is promised of the whole call.
use Rattle.std.proofs.Common.{◌≡◌, ◌⊎◌, inl, inr, ℕ, ◌≤◌, Bool, true, false, Option, None, Some, Result, Ok, Err, List, ◌∷◌, OnOk, refl, sym, ap, subst, ◌∙◌, arith}
use Rattle.std.specs.Io.KnownBytes.{Appends}
use Rattle.edge_io.specs.Bytes.{AppendsPrefix}
use Rattle.edge_io.specs.Causes.{Rose, HasCause}
use Rattle.edge_io.specs.Seen.{Seen}
use Rattle.command_steps.specs.Outside.{Outside, Work, work_of}
use Rattle.command_steps.specs.Refusals.{exit_status}
use Rattle.command_steps.specs.declared.answer.Verdict.{Verdict}
use Rattle.command_steps.specs.declared.answer.Refusal.{Refusal}
use Rattle.testr_words.specs.Suites.{RunOptions}
use Rattle.testr_words.specs.Tasks.{Task, ask, run, task_of, task_with, quiet_of, forces, forces_for, hides, hides_for, live_of, live_for, streams, streams_for, warns, expects, expects_for}
use Rattle.testr_words.specs.declared.command.Question.{Question}
use Rattle.testr_words.specs.declared.command.Question.TheVariants.{Failing}
use Rattle.testr_words.specs.declared.command.Verb.{Verb}
use Rattle.testr_words.specs.declared.command.Verb.TheVariants as verb
use Rattle.testr_commands.specs.Sparing.{SparesReads}
use Rattle.testr_commands.specs.SparingRun.{SparesRun}
use Rattle.testr_words.specs.Words.{face_word, and_then, forces_first, hides_then, live_then, streams_then, warns_then, expects_then}
use Rattle.testr_words.specs.declared.live_kind.LiveKind.{LiveKind}
use Rattle.testr_words.specs.declared.command.Command.{Command}
use Rattle.testr_words.specs.declared.command.Face.{Face}
use Rattle.testr_words.proofs.WordsLemmas.{same_face}
use Rattle.testr_commands.specs.Forced.{PromisesBy}
use Rattle.testr_commands.specs.Program.{GivesUp, Tells, Answers}
use Rattle.testr_commands.specs.Spoken.{nowhere, packets_for, Saying, Streams}
use Rattle.suite_plan.specs.Choosing.{Ids}
use Rattle.suite_plan.specs.LoadList.{ReadsLoadList}
use Rattle.suite_plan.specs.declared.load_list.ListRefusal.{ListRefusal}
use Rattle.suite_plan.specs.declared.load_list.ListRefusal.TheVariants as load_list
use Rattle.edge_io.specs.Disk.{Files, Folder}
use Rattle.command_steps.specs.declared.answer.Refusal.TheVariants.{LoadList}
use Rattle.testr_commands.specs.Endings.{Readied, CanExpect, Expecting}
use Rattle.testr_commands.proofs.EndLemmas.{adding_to, adding_none}
use Rattle.testr_commands.specs.WholeCall.{without_out, Hides, PromisesEnding, PromisesHiding, PromisesSaying, PromisesExpecting, PromisesUnwarned, most_workers_text, TellsMost, Warns, ReadsNot, PromisesCommand, PromisesWords}
use Rattle.testr_commands.specs.Elsewhere.{PromisesAnywhere, HereThen, ElsewhereThen, TestrPromises}
use Rattle.testr_commands.proofs.ForceLemmas.{by_reading, by_memory}
use Rattle.testr_commands.proofs.PromiseLemmas.{promises}
use Rattle.testr_commands.proofs.SpokenLemmas.{saying_to, saying_none, no_packets}
use Rattle.testr_commands.proofs.SuiteNever.{load_list_never}

-- ---- without a report

module _ (hide force : Bool) (expected : Option Ids) (asked : Option Task) (before after : Outside) (answer : ℕ) where
  pub not_hidden : hide ≡ false → PromisesEnding force false expected asked before after answer → PromisesHiding hide force false expected asked before after answer
  not_hidden is given = subst (λ (h : Bool). PromisesHiding h force false expected asked before after answer) (sym is) given

  pub hidden : hide ≡ true → after.out ≡ before.out → PromisesEnding force false expected asked (without_out before) (without_out after) answer → PromisesHiding hide force false expected asked before after answer
  hidden is out rest = subst (λ (h : Bool). PromisesHiding h force false expected asked before after answer) (sym is) (record { out = out; rest = rest })

-- ---- with what is said while a run goes on

module _ (stream : Bool) (kind : LiveKind) (hide force : Bool) (expected : Option Ids) (asked : Option Task) (before after : Outside) (answer : ℕ) where
  -- packets are printed
  pub streamed : stream ≡ true → Streams (packets_for asked) (Saying kind asked (PromisesEnding force false expected asked)) before after answer → PromisesSaying stream kind hide force false expected asked before after answer
  streamed is given = subst (λ (s : Bool). PromisesSaying s kind hide force false expected asked before after answer) (sym is) given

  unstreamed : stream ≡ false → Saying kind asked (PromisesHiding hide force false expected asked) before after answer → PromisesSaying stream kind hide force false expected asked before after answer
  unstreamed is given = subst (λ (s : Bool). PromisesSaying s kind hide force false expected asked before after answer) (sym is) given

  -- a report is
  pub said_shown : stream ≡ false → hide ≡ false → Saying kind asked (PromisesEnding force false expected asked) before after answer → PromisesSaying stream kind hide force false expected asked before after answer
  said_shown plain shows given =
      unstreamed plain
      (saying_to (PromisesEnding force false expected asked) (PromisesHiding hide force false expected asked) before before after after answer
      (λ errors told promised. not_hidden hide force expected asked (record before { errors = errors }) (record after { errors = told }) answer shows promised)
      kind asked refl refl refl given)

  -- nothing is
  pub said_hidden : stream ≡ false → hide ≡ true → after.out ≡ before.out → Saying kind asked (PromisesEnding force false expected asked) (without_out before) (without_out after) answer → PromisesSaying stream kind hide force false expected asked before after answer
  said_hidden plain hides out given =
      unstreamed plain
      (saying_to (PromisesEnding force false expected asked) (PromisesHiding hide force false expected asked) (without_out before) before (without_out after) after answer
      (λ errors told promised. hidden hide force expected asked (record before { errors = errors }) (record after { errors = told }) answer hides out promised)
      kind asked refl refl refl given)

-- ---- with a list of what is expected

module _ (promises : Option Ids → Outside → Outside → ℕ → Type 0) (before after : Outside) (answer : ℕ) where
  -- none is named
  pub not_expecting : (expect : Option (List ℕ)) → None ≡ expect → promises None before after answer → Expecting expect promises before after answer
  not_expecting expect is given = subst (λ (e : Option (List ℕ)). Expecting e promises before after answer) is given

  -- a list that can be read is refused for want of memory alone
  list_complete : (name : List ℕ) (listed : Seen Files) (refusal : ListRefusal) → CanExpect name before.site.told → ReadsLoadList name before.site listed (Err refusal) → after.site ≡ listed → (Rose before.site.faults after.site.faults → ⊥) → answer ≡ exit_status (Err (LoadList refusal)) → answer ≡ 5
  list_complete name listed load_list.Site can reads same none code = absurd (none (subst (λ (s : Seen Files). Rose before.site.faults s.faults) (sym same) (reads.count.rose refl)))
  list_complete name listed (load_list.TooLong given) can reads same none code = absurd ((load_list_never name before.site listed (load_list.TooLong given) can reads).0 refl)
  list_complete name listed (load_list.Absent given) can reads same none code = absurd ((load_list_never name before.site listed (load_list.Absent given) can reads).0 refl)
  list_complete name listed (load_list.NotId given number) can reads same none code = absurd ((load_list_never name before.site listed (load_list.NotId given number) can reads).0 refl)
  list_complete name listed load_list.NoMemory can reads same none code = code

  -- it was read
  pub expecting : (name : List ℕ) (expect : Option (List ℕ)) (listed : Seen Files) (ids : Ids) → Some name ≡ expect → ReadsLoadList name before.site listed (Ok ids) → promises (Some ids) (record before { site = listed }) after answer → Expecting expect promises before after answer
  expecting name expect listed ids is reads given = subst (λ (e : Option (List ℕ)). Expecting e promises before after answer) is (record { listed = listed; result = Ok ids; reads = reads; goes = given; completeness = λ can none. inl refl })

  -- it was refused
  pub expecting_not : (name : List ℕ) (expect : Option (List ℕ)) (listed : Seen Files) (refusal : ListRefusal) → Some name ≡ expect → ReadsLoadList name before.site listed (Err refusal) → work_of after ≡ work_of (record before { site = listed }) → Tells (Err (LoadList refusal)) before.errors after.errors answer → Expecting expect promises before after answer
  expecting_not name expect listed refusal is reads same told = subst (λ (e : Option (List ℕ)). Expecting e promises before after answer) is (record {
    listed = listed;
    result = Err refusal;
    reads = reads;
    goes = record { same = same; told = told };
    completeness = λ can none. inr (list_complete name listed refusal can reads (λ i. (same i).site) none told.code);
  })

-- only of a load is anything expected, and the folder of the project decides nothing of it
pub same_task : (folder other name : List ℕ) (c : Command) → Some name ≡ expects folder c → task_of other c ≡ task_of folder c
same_task folder other name c is = by c.verb is
  where
    by : (v : Verb) → Some name ≡ expects_for c.expect (task_with folder v c) → task_with other v c ≡ task_with folder v c
    by verb.Run is = cc
    by verb.ListTests is = cc
    by v is = refl

-- what the command promises by its task
abbrev pub SaysByTask : Command → (expected : Option Ids) → Option Task → Outside → Outside → ℕ → Type 0
SaysByTask c expected task = PromisesSaying (streams_for c.subunit task) (live_for c.live task) (hides_for c.no_report task) (forces_for c.force_init task) false expected task

-- the same of what is done where nothing can be started
abbrev pub QuietByTask : Command → (expected : Option Ids) → Option Task → Outside → Outside → ℕ → Type 0
QuietByTask c expected task = SaysByTask c expected (quiet_of task)

pub says_task : (c : Command) (expected : Option Ids) {read asked : Option Task} (before after : Outside) (answer : ℕ) → read ≡ asked → SaysByTask c expected read before after answer → SaysByTask c expected asked before after answer
says_task c expected before after answer is given = subst (λ (t : Option Task). SaysByTask c expected t before after answer) is given

pub quiet_task : (c : Command) (expected : Option Ids) {read asked : Option Task} (before after : Outside) (answer : ℕ) → read ≡ asked → QuietByTask c expected read before after answer → QuietByTask c expected asked before after answer
quiet_task c expected before after answer is given = subst (λ (t : Option Task). QuietByTask c expected t before after answer) is given

expected_asks : (folder name : List ℕ) (c : Command) (question : Question) → Some name ≡ expects folder c → task_of folder c ≡ Some (ask question) → ⊥
expected_asks folder name c question is asks =
    let other : Some name ≡ None = is ∙ ap (expects_for c.expect) asks in
    cc

expected_runs : (folder name : List ℕ) (c : Command) (options : RunOptions) → Some name ≡ expects folder c → task_of folder c ≡ Some (run options) → ⊥
expected_runs folder name c options is runs =
    let other : Some name ≡ None = is ∙ ap (expects_for c.expect) runs in
    cc

-- it asks nothing
pub expected_spare : (folder name : List ℕ) (c : Command) (told : Option Folder) (before now : ℕ) → Some name ≡ expects folder c → SparesReads (task_of folder c) told before now
expected_spare folder name c told before now is = record {
  failing = λ list asks. absurd (expected_asks folder name c (Failing list) is asks);
  looks = λ question asks. absurd (expected_asks folder name c question is asks);
}

-- and it runs nothing
pub expected_spares_run : (folder name : List ℕ) (c : Command) (old new : Option Folder) (answer before now : ℕ) → Some name ≡ expects folder c → SparesRun (task_of folder c) old new answer before now
expected_spares_run folder name c old new answer before now is = λ options runs. absurd (expected_runs folder name c options is runs)

-- ---- with a line

-- the line was written, or its sink failed
pub told_most : {E : Type 0} (before after : Seen (List ℕ)) (result : Result Unit E) → AppendsPrefix before.told after.told most_workers_text → OnOk result (Appends before.told after.told most_workers_text) → HasCause before.faults after.faults result → TellsMost before after
told_most before after (Ok unit) prefix whole cause = (prefix, inl whole)
told_most before after (Err fault) prefix whole cause = (prefix, inr cause.failed)

module _ (warn stream : Bool) (kind : LiveKind) (hide force : Bool) (expect : Option (List ℕ)) (asked : Option Task) (before after : Outside) (answer : ℕ) where
  pub not_warned : warn ≡ false → PromisesExpecting stream kind hide force expect asked before after answer → PromisesCommand warn stream kind hide force expect asked before after answer
  not_warned is given = subst (λ (w : Bool). PromisesCommand w stream kind hide force expect asked before after answer) (sym is) given

  pub warned : warn ≡ true → (line : Seen (List ℕ)) → TellsMost before.errors line → PromisesExpecting stream kind hide force expect asked (record before { errors = line }) after answer → PromisesCommand warn stream kind hide force expect asked before after answer
  warned is line tells rest = subst (λ (w : Bool). PromisesCommand w stream kind hide force expect asked before after answer) (sym is) (record { warned = line; tells = tells; rest = rest })

-- ---- where words were read for it

ending_read : (force : Bool) (expected : Option Ids) (asked : Option Task) (before after : Outside) (answer : ℕ) → PromisesEnding force false expected asked before after answer → PromisesEnding force true expected asked before after answer
ending_read force expected asked before after answer given =
    adding_to Readied Readied (PromisesBy force false asked) (PromisesBy force true asked) before before after after answer
    (λ told inner promised. by_reading force asked before (record after { errors = told }) inner promised)
    (λ e text fails left. left) refl expected asked given

hiding_read : (hide force : Bool) (expected : Option Ids) (asked : Option Task) (before after : Outside) (answer : ℕ) → PromisesHiding hide force false expected asked before after answer → PromisesHiding hide force true expected asked before after answer
hiding_read true force expected asked before after answer given = record { out = given.out; rest = ending_read force expected asked (without_out before) (without_out after) answer given.rest }
hiding_read false force expected asked before after answer given = ending_read force expected asked before after answer given

saying_read : (stream : Bool) (kind : LiveKind) (hide force : Bool) (expected : Option Ids) (asked : Option Task) (before after : Outside) (answer : ℕ) → PromisesSaying stream kind hide force false expected asked before after answer → PromisesSaying stream kind hide force true expected asked before after answer
saying_read true kind hide force expected asked before after answer given = record {
  inner = given.inner;
  told = given.told;
  rest =
      let b : Outside = without_out before in
      let a : Outside = record after { out = nowhere; errors = given.told } in
      saying_to (PromisesEnding force false expected asked) (PromisesEnding force true expected asked) b b a a given.inner
      (λ errors told promised. ending_read force expected asked (record b { errors = errors }) (record a { errors = told }) given.inner promised)
      kind asked refl refl refl given.rest;
  failed = given.failed;
  silent = given.silent;
  silent_is = given.silent_is;
  heard_is = given.heard_is;
  printed = given.printed;
  ends = given.ends;
}
saying_read false kind hide force expected asked before after answer given =
    saying_to (PromisesHiding hide force false expected asked) (PromisesHiding hide force true expected asked) before before after after answer
    (λ errors told promised. hiding_read hide force expected asked (record before { errors = errors }) (record after { errors = told }) answer promised)
    kind asked refl refl refl given

by_unwarned : (stream : Bool) (kind : LiveKind) (hide force : Bool) (expect : Option (List ℕ)) (asked : Option Task) (before after : Outside) (answer : ℕ) → PromisesExpecting stream kind hide force expect asked before after answer → PromisesUnwarned stream kind hide force expect asked before after answer
by_unwarned stream kind hide force None asked before after answer given = saying_read stream kind hide force None asked before after answer given
by_unwarned stream kind hide force (Some name) asked before after answer given = inl given

by_words : (warn stream : Bool) (kind : LiveKind) (hide force : Bool) (expect : Option (List ℕ)) (asked : Option Task) (before after : Outside) (answer : ℕ) → PromisesCommand warn stream kind hide force expect asked before after answer → PromisesWords warn stream kind hide force expect asked before after answer
by_words true stream kind hide force expect asked before after answer given = inl given
by_words false stream kind hide force expect asked before after answer given = by_unwarned stream kind hide force expect asked before after answer given

-- what words promise that are this command, or none
abbrev PromisesRead : List ℕ → Option Command → Outside → Outside → ℕ → Type 0
PromisesRead folder read = PromisesWords (warns_then folder read) (streams_then folder read) (live_then folder read) (hides_then folder read) (forces_first folder read) (expects_then folder read) (and_then read (task_of folder))

-- the words ask for what the command does
pub read_by : (folder : List ℕ) (command : Command) (read : Option Command) (before after : Outside) (answer : ℕ) → Some command ≡ read → PromisesCommand (warns folder command) (streams folder command) (live_of folder command) (hides folder command) (forces folder command) (expects folder command) (task_of folder command) before after answer → PromisesRead folder read before after answer
read_by folder command read before after answer is given =
    subst (λ (o : Option Command). PromisesRead folder o before after answer) is (by_words (warns folder command) (streams folder command) (live_of folder command) (hides folder command) (forces folder command) (expects folder command) (task_of folder command) before after answer given)

-- what the words promise, here or elsewhere
abbrev pub PromisesThen : List ℕ → Option Command → Outside → Outside → ℕ → Type 0
PromisesThen folder read before after answer = (PromisesRead folder read before after answer × HereThen folder read before.site answer) ⊎ ElsewhereThen folder read before after answer

pub anywhere_by : (folder : List ℕ) (command : Command) (read : Option Command) (before after : Outside) (answer : ℕ) → Some command ≡ read → PromisesAnywhere folder command before after answer → PromisesThen folder read before after answer
anywhere_by folder command read before after answer is (inl (here, placed)) = inl (read_by folder command read before after answer is here, subst (λ (o : Option Command). HereThen folder o before.site answer) is placed)
anywhere_by folder command read before after answer is (inr there) = inr (subst (λ (o : Option Command). ElsewhereThen folder o before after answer) is there)

-- they are no command, or memory was wanting for them
pub none_here : (folder : List ℕ) (read : Option Command) (site : Seen Files) (answer : ℕ) → None ≡ read → HereThen folder read site answer
none_here folder read site answer is = subst (λ (o : Option Command). HereThen folder o site answer) is tt

pub five_here : (folder : List ℕ) (read : Option Command) (site : Seen Files) (answer : ℕ) → answer ≡ 5 → HereThen folder read site answer
five_here folder None site answer is = tt
five_here folder (Some command) site answer is = inr (omega (arith, is))

-- they are no command
pub read_none : (folder : List ℕ) (read : Option Command) (before after : Outside) (answer : ℕ) → None ≡ read → Answers true None before after answer → PromisesRead folder read before after answer
read_none folder read before after answer is answers =
    subst (λ (o : Option Command). PromisesRead folder o before after answer) is (promises true None before after answer answers)

-- ---- memory was wanting for the words

module _ (asked : Option Task) (force : Bool) (before after : Outside) (answer : ℕ) (outcome : Result Verdict Refusal) (gives : GivesUp (work_of before) (work_of after) outcome) (told : Tells outcome before.errors after.errors answer) where
  wanting : answer ≡ 5
  wanting = told.code ∙ ap exit_status gives.memory

  not_small : answer ≤ 1 → ⊥
  not_small small = omega (arith, small, wanting)

  same_out : after.out ≡ before.out
  same_out = ap (λ (w : Work). w.out) gives.same

  without : GivesUp (work_of (without_out before)) (work_of (without_out after)) outcome
  without = record { fault = gives.fault; memory = gives.memory; same = ap (λ (w : Work). record w { out = nowhere }) gives.same }

  ending_not : (b a : Outside) → GivesUp (work_of b) (work_of a) outcome → Tells outcome b.errors a.errors answer → PromisesEnding force true None asked b a answer
  ending_not b a none line = adding_none Readied None asked (PromisesBy force true asked) b a answer not_small (by_memory force asked b a answer outcome none line)

  hiding_not : (hide : Bool) → PromisesHiding hide force true None asked before after answer
  hiding_not true = record { out = same_out; rest = ending_not (without_out before) (without_out after) without told }
  hiding_not false = ending_not before after gives told

  saying_not : (stream : Bool) (kind : LiveKind) (hide : Bool) → PromisesSaying stream kind hide force true None asked before after answer
  saying_not true kind hide = record {
    inner = answer;
    told = after.errors;
    rest = saying_none kind asked (PromisesEnding force true None asked) (without_out before) (without_out after) answer not_small (ending_not (without_out before) (without_out after) without told);
    failed = false;
    silent = false;
    silent_is = λ never. cc;
    heard_is = λ heard small. absurd (not_small small);
    printed = subst (λ (o : Seen (List ℕ)). packets_for asked answer after.folder.told before.out o false) (sym same_out) (no_packets asked answer after.folder.told before.out not_small);
    ends = record {
      refused = λ two. (refl, refl);
      done = λ small well. absurd (not_small small);
      code = λ small failed. absurd (not_small small);
      line = λ small failed heard. absurd (not_small small);
      no_line = λ never. refl;
    };
  }
  saying_not false kind hide = saying_none kind asked (PromisesHiding hide force true None asked) before after answer not_small (hiding_not hide)

  unwarned_not : (stream : Bool) (kind : LiveKind) (hide : Bool) (expect : Option (List ℕ)) → PromisesUnwarned stream kind hide force expect asked before after answer
  unwarned_not stream kind hide None = saying_not stream kind hide
  unwarned_not stream kind hide (Some name) = inr (record { outcome = outcome; gives = gives; told = told })

pub read_not : (warn stream : Bool) (kind : LiveKind) (hide force : Bool) (expect : Option (List ℕ)) (asked : Option Task) (before after : Outside) (answer : ℕ) (outcome : Result Verdict Refusal) → GivesUp (work_of before) (work_of after) outcome → Tells outcome before.errors after.errors answer → PromisesWords warn stream kind hide force expect asked before after answer
read_not true stream kind hide force expect asked before after answer outcome gives told = inr (record { outcome = outcome; gives = gives; told = told })
read_not false stream kind hide force expect asked before after answer outcome gives told = unwarned_not asked force before after answer outcome gives told stream kind hide expect

-- the words behind the name are these
pub testr_behind : (folder : List ℕ) (face given : Face) (rest behind : List (List ℕ)) → face_word face ∷ rest ≡ face_word given ∷ behind → (before after : Outside) (answer : ℕ) → TestrPromises folder face rest before after answer → TestrPromises folder given behind before after answer
testr_behind folder face given rest behind is before after answer promised =
    let same : rest ≡ behind = cc in
    subst (λ (f : Face). TestrPromises folder f behind before after answer) (same_face face given rest behind is)
    (subst (λ (l : List (List ℕ)). TestrPromises folder face l before after answer) same promised)
