-- What is said of a run, and what is promised beside it.
use Rattle.std.proofs.Common.{◌≡◌, ◌⊎◌, inl, inr, ℕ, ◌≤◌, Bool, true, false, Option, None, Some, Result, Ok, Err, List, [], ◌++◌, append-nil, refl, sym, ap, subst, ◌∙◌}
use Rattle.std.specs.Prelude.{option_map}
use Rattle.std.specs.Io.KnownBytes.{Appends}
use Rattle.std.proofs.KnownBytes.{Appends-trans}
use Rattle.edge_io.specs.Causes.{Rose}
use Rattle.edge_io.specs.Disk.{Folder}
use Rattle.edge_io.specs.Seen.{Seen}
use Rattle.live_text.specs.declared.live.Live.{Live}
use Rattle.packet_codec.specs.Canonical.{IsEvent, Fits}
use Rattle.std.proofs.lemmas.List.Elements.{All-nil}
use Rattle.speaker.specs.Speaking.{Takes}
use Rattle.speaker.proofs.TakesLemmas.{none_yet}
use Rattle.suite_run.specs.Aloud.{Sinks, echoed}
use Rattle.suite_run.specs.declared.run_listener.Echo.{Echo}
use Rattle.suite_run.specs.declared.run_listener.Echo.TheVariants as echo
use Rattle.suite_run.specs.declared.run_listener.Shown.{Shown}
use Rattle.testr_words.specs.Drawings.{drawing_of}
use Rattle.testr_words.specs.Tasks.{Task, load, run, selftest, task_of, task_with, quiet_of, live_for, live_of, streams_for, streams}
use Rattle.testr_words.specs.declared.command.Command.{Command}
use Rattle.testr_words.specs.declared.command.Verb.{Verb}
use Rattle.testr_words.specs.declared.command.Verb.TheVariants as verb
use Rattle.testr_words.specs.declared.selftest_words.SelfTestWords.{SelfTestWords}
use Rattle.testr_words.specs.declared.live_kind.LiveKind.{LiveKind}
use Rattle.testr_words.specs.declared.live_kind.LiveKind.TheVariants.{Nothing, Tests, Failures, Dots}
use Rattle.command_steps.specs.Outside.{Outside}
use Rattle.command_steps.specs.Refusals.{refusal_text}
use Rattle.command_steps.specs.Speaking.{SaysAloud}
use Rattle.command_steps.specs.declared.answer.Refusal.{Refusal}
use Rattle.command_steps.specs.declared.answer.Verdict.{Verdict}
use Rattle.command_steps.specs.declared.live_lines.Silenced.{Silenced}
use Rattle.testr_commands.specs.Program.{Answers, Tells}
use Rattle.testr_commands.proofs.CallLemmas.{told_refused}
use Rattle.testr_commands.specs.Spoken.{nowhere, without_errors, echo_of, outcome_text, HavePackets, Taking, TakesLines, TakesPackets, Behind, SaysLinesFirst, lines_for, packets_for, Saying}
use Rattle.testr_words.specs.Suites.{load_options}

-- ---- what holds behind the lines may be said otherwise, of parts that they do not touch

module _ (promises others : Outside → Outside → ℕ → Type 0) (b c a d : Outside) (answer : ℕ) (each : (errors told : Seen (List ℕ)) → promises (record b { errors = errors }) (record a { errors = told }) answer → others (record c { errors = errors }) (record d { errors = told }) answer) where
  behind_to : (failed : Bool) (spoken : Seen (List ℕ)) → d.errors ≡ a.errors → Behind failed spoken promises b a answer → Behind failed spoken others c d answer
  behind_to true spoken same rest = (same ∙ rest.0, each nowhere nowhere rest.1)
  behind_to false spoken same rest = subst (λ (told : Seen (List ℕ)). others (record c { errors = spoken }) (record d { errors = told }) answer) (sym same) (each spoken a.errors rest)

  says_to : (lines : Taking) → c.errors ≡ b.errors → d.errors ≡ a.errors → d.folder ≡ a.folder → SaysLinesFirst lines promises b a answer → SaysLinesFirst lines others c d answer
  says_to lines before after folder says = record {
    spoken = says.spoken;
    failed = says.failed;
    said =
        subst (λ (f : Seen Folder). lines answer f.told c.errors says.spoken says.failed) (sym folder)
        (subst (λ (e : Seen (List ℕ)). lines answer a.folder.told e says.spoken says.failed) (sym before) says.said);
    rest = behind_to says.failed says.spoken after says.rest;
  }

  pub saying_to : (kind : LiveKind) (asked : Option Task) → c.errors ≡ b.errors → d.errors ≡ a.errors → d.folder ≡ a.folder → Saying kind asked promises b a answer → Saying kind asked others c d answer
  saying_to Nothing asked before after folder given =
      subst (λ (errors : Seen (List ℕ)). others (record c { errors = errors }) d answer) (sym before)
      (subst (λ (told : Seen (List ℕ)). others (record c { errors = b.errors }) (record d { errors = told }) answer) (sym after) (each b.errors a.errors given))
  saying_to Tests asked before after folder given = says_to (lines_for Tests asked) before after folder given
  saying_to Failures asked before after folder given = says_to (lines_for Failures asked) before after folder given
  saying_to Dots asked before after folder given = says_to (lines_for Dots asked) before after folder given

-- ---- where nothing was said

no_events : HavePackets []
no_events = record { are_events = All-nil IsEvent; fit = All-nil Fits }

no_lines : (kind : LiveKind) (asked : Option Task) (answer : ℕ) (folder : Option Folder) (errors : Seen (List ℕ)) → (answer ≤ 1 → ⊥) → lines_for kind asked answer folder errors errors false
no_lines kind (Some (load options names)) answer folder errors other = record { whole = λ small. absurd (other small); none = λ early three. refl; some = ([], no_events, inl (none_yet errors)) }
no_lines kind (Some (run options)) answer folder errors other = record { whole = λ small. absurd (other small); none = λ early three. refl; some = ([], no_events, inl (none_yet errors)) }
no_lines kind asked answer folder errors other = (refl, refl)

pub no_packets : (asked : Option Task) (answer : ℕ) (folder : Option Folder) (out : Seen (List ℕ)) → (answer ≤ 1 → ⊥) → packets_for asked answer folder out out false
no_packets (Some (load options names)) answer folder out other = record { whole = λ small. absurd (other small); none = λ early three. refl; some = ([], no_events, none_yet out) }
no_packets (Some (run options)) answer folder out other = record { whole = λ small. absurd (other small); none = λ early three. refl; some = ([], no_events, none_yet out) }
no_packets asked answer folder out other = (refl, refl)

-- a sink that was not called has not failed
pub no_packets_as : (asked : Option Task) (answer : ℕ) (folder : Option Folder) (out : Seen (List ℕ)) (failed : Bool) → failed ≡ false → (answer ≤ 1 → ⊥) → packets_for asked answer folder out out failed
no_packets_as asked answer folder out failed is other = subst (λ (f : Bool). packets_for asked answer folder out out f) (sym is) (no_packets asked answer folder out other)

says_none : (lines : Taking) (promises : Outside → Outside → ℕ → Type 0) (before after : Outside) (answer : ℕ) → lines answer after.folder.told before.errors before.errors false → promises before after answer → SaysLinesFirst lines promises before after answer
says_none lines promises before after answer none rest = record { spoken = before.errors; failed = false; said = none; rest = rest }

pub saying_none : (kind : LiveKind) (asked : Option Task) (promises : Outside → Outside → ℕ → Type 0) (before after : Outside) (answer : ℕ) → (answer ≤ 1 → ⊥) → promises before after answer → Saying kind asked promises before after answer
saying_none Nothing asked promises before after answer other rest = rest
saying_none Tests asked promises before after answer other rest = says_none (lines_for Tests asked) promises before after answer (no_lines Tests asked answer after.folder.told before.errors other) rest
saying_none Failures asked promises before after answer other rest = says_none (lines_for Failures asked) promises before after answer (no_lines Failures asked answer after.folder.told before.errors other) rest
saying_none Dots asked promises before after answer other rest = says_none (lines_for Dots asked) promises before after answer (no_lines Dots asked answer after.folder.told before.errors other) rest

-- no lines are asked for
pub saying_plain : (kind : LiveKind) (asked : Option Task) (promises : Outside → Outside → ℕ → Type 0) (before after : Outside) (answer : ℕ) → kind ≡ Nothing → promises before after answer → Saying kind asked promises before after answer
saying_plain kind asked promises before after answer is rest = subst (λ (k : LiveKind). Saying k asked promises before after answer) (sym is) rest

-- some are
pub saying_lines : (kind : LiveKind) (asked : Option Task) (promises : Outside → Outside → ℕ → Type 0) (before after : Outside) (answer : ℕ) → (kind ≡ Nothing → ⊥) → SaysLinesFirst (lines_for kind asked) promises before after answer → Saying kind asked promises before after answer
saying_lines Nothing asked promises before after answer other says = absurd (other refl)
saying_lines Tests asked promises before after answer other says = says
saying_lines Failures asked promises before after answer other says = says
saying_lines Dots asked promises before after answer other says = says

-- the answer was told behind them, or not at all
pub says_behind : (lines : Taking) (promises : Outside → Outside → ℕ → Type 0) (before after : Outside) (answer : ℕ) (spoken : Seen (List ℕ)) (failed : Bool)
    → lines answer after.folder.told before.errors spoken failed
    → (failed ≡ false → promises (record before { errors = spoken }) after answer)
    → (failed ≡ true → (after.errors ≡ spoken) × promises (without_errors before) (without_errors after) answer)
    → SaysLinesFirst lines promises before after answer
says_behind lines promises before after answer spoken failed said well deaf = record { spoken = spoken; failed = failed; said = said; rest = by failed well deaf }
  where
    by : (f : Bool) → (f ≡ false → promises (record before { errors = spoken }) after answer) → (f ≡ true → (after.errors ≡ spoken) × promises (without_errors before) (without_errors after) answer) → Behind f spoken promises before after answer
    by true well deaf = deaf refl
    by false well deaf = well refl

-- ---- what the sinks took of a run

module _ {early : Bool} (shown : Shown) (partial : Bool) (answer : ℕ) (folder : Option Folder) (before after : Sinks) (silenced : Silenced) (says : SaysAloud shown early partial answer folder before after silenced) where
  pub lines_taken : (kind : Live) → shown.live ≡ kind → TakesLines kind early partial answer folder before.errors after.errors silenced.errors
  lines_taken kind is = subst (λ (k : Live). TakesLines k early partial answer folder before.errors after.errors silenced.errors) is (record {
    whole = λ small. let all = says.whole small in (all.events, record { are_events = all.are_events; fit = all.fit }, all.last, all.lines);
    none = λ first three i. (says.none first three i).errors;
    some = (says.some.events, record { are_events = says.some.are_events; fit = says.some.fit }, says.some.lines);
  })

-- a sink that has failed has a count that rose
pub rose_lines : {early : Bool} (kind : Live) (partial : Bool) (answer : ℕ) (folder : Option Folder) (before after : Seen (List ℕ)) (failed : Bool) → TakesLines kind early partial answer folder before after failed → failed ≡ true → Rose before.faults after.faults
rose_lines kind partial answer folder before after failed taken is = elim taken.some.2 [
  | inl takes ↦ takes.rose is
  | inr given ↦ given.1.rose is
]

-- so it is where the sink is as it was then
pub rose_still : (before spoken after : Seen (List ℕ)) → after ≡ spoken → Rose before.faults spoken.faults → Rose before.faults after.faults
rose_still before spoken after same rose = subst (λ (s : Seen (List ℕ)). Rose before.faults s.faults) (sym same) rose

-- where packets are asked for, the output was to take those of the run
pub packets_taken : {early : Bool} (shown : Shown) (partial : Bool) (answer : ℕ) (folder : Option Folder) (before after : Sinks) (silenced : Silenced) → shown.echo ≡ echo.Packets → SaysAloud shown early partial answer folder before after silenced → TakesPackets early partial answer folder before.out after.out silenced.out
packets_taken shown partial answer folder before after silenced is says = record {
  whole = λ small.
      let all = says.whole small in
      (all.events, record { are_events = all.are_events; fit = all.fit }, all.last, subst (λ (k : Echo). Takes (echoed k all.events) before.out after.out silenced.out) is all.packets);
  none = λ first three i. (says.none first three i).out;
  some = (says.some.events, record { are_events = says.some.are_events; fit = says.some.fit }, subst (λ (k : Echo). Takes (echoed k says.some.events) before.out after.out silenced.out) is says.some.packets);
}

-- of what was done nothing is told
told_still : (outcome : Result Verdict Refusal) (before after : Seen (List ℕ)) (answer : ℕ) → Tells outcome before after answer → answer ≤ 1 → after ≡ before
told_still (Ok verdict) before after answer told small = told.line
told_still (Err refusal) before after answer told small = absurd (told_refused refusal answer told.code small)

pub told_faults : (outcome : Result Verdict Refusal) (before after : Seen (List ℕ)) (answer : ℕ) → Tells outcome before after answer → answer ≤ 1 → after.faults ≡ before.faults
told_faults outcome before after answer told small = ap (λ (s : Seen (List ℕ)). s.faults) (told_still outcome before after answer told small)

-- and then a sink that has not failed has the count that it had
pub heard_lines : {early : Bool} (kind : Live) (partial : Bool) (answer : ℕ) (folder : Option Folder) (before spoken after : Seen (List ℕ)) (failed : Bool) (outcome : Result Verdict Refusal) → TakesLines kind early partial answer folder before spoken failed → Tells outcome spoken after answer → failed ≡ false → answer ≤ 1 → after.faults ≡ before.faults
heard_lines kind partial answer folder before spoken after failed outcome taken told is small =
    told_faults outcome spoken after answer told small ∙ (taken.whole small).3.stands is

-- packets are asked for
pub echo_packets : (subunit : Bool) → subunit ≡ true → echo_of subunit ≡ echo.Packets
echo_packets true is = refl
echo_packets false is = cc

-- ---- a refusal behind lines

-- what is told of an outcome
pub told_behind : (front : List ℕ) (start spoken after : Seen (List ℕ)) (failed : Bool) (outcome : Result Verdict Refusal) (answer : ℕ) → Takes front start spoken failed → (failed ≡ false → Tells outcome spoken after answer) → (failed ≡ true → after ≡ spoken) → (Rose start.faults after.faults → ⊥) → Appends start.told after.told (front ++ outcome_text outcome)
told_behind front start spoken after true outcome answer takes well deaf none =
    absurd (none (subst (λ (s : Seen (List ℕ)). Rose start.faults s.faults) (sym (deaf refl)) (takes.rose refl)))
told_behind front start spoken after false (Ok verdict) answer takes well deaf none =
    subst (λ (text : List ℕ). Appends start.told after.told text) (sym (append-nil front))
    (subst (λ (s : Seen (List ℕ)). Appends start.told s.told front) (sym (well refl).line) (takes.whole refl))
told_behind front start spoken after false (Err refusal) answer takes well deaf none = elim (well refl).line.1 [
  | inl told ↦ Appends-trans start.told spoken.told after.told front (refusal_text refusal) (takes.whole refl) told
  | inr rose ↦ absurd (none (subst (λ (n : ℕ). Rose n after.faults) (takes.stands refl) rose))
]

-- ---- by the command

-- what was said by the answer that was told
pub as_answered : {early : Bool} (shown : Shown) (partial : Bool) (answer given : ℕ) (folder : Option Folder) (before after : Sinks) (silenced : Silenced) → answer ≡ given → SaysAloud shown early partial given folder before after silenced → SaysAloud shown early partial answer folder before after silenced
as_answered {early = early} shown partial answer given folder before after silenced is says = subst (λ (n : ℕ). SaysAloud shown early partial n folder before after silenced) (sym is) says

-- these are lines
abbrev pub IsSomeKind : LiveKind → Type 0
IsSomeKind kind = (kind ≡ Tests) ⊎ ((kind ≡ Failures) ⊎ (kind ≡ Dots))

pub some_kind : (kind : LiveKind) → IsSomeKind kind → kind ≡ Nothing → ⊥
some_kind kind (inl is) none = cc
some_kind kind (inr (inl is)) none = cc
some_kind kind (inr (inr is)) none = cc

-- a run says what its command asks for
pub run_says : (folder : List ℕ) (c : Command) (before after : Outside) (answer : ℕ) → c.verb ≡ verb.Run → Saying c.live (task_with folder verb.Run c) (Answers false (task_with folder verb.Run c)) before after answer → Saying (live_of folder c) (task_of folder c) (Answers false (task_of folder c)) before after answer
run_says folder c before after answer is says = subst (λ (v : Verb). Saying (live_for c.live (task_with folder v c)) (task_with folder v c) (Answers false (task_with folder v c)) before after answer) (sym is) says

pub run_streams : (folder : List ℕ) (c : Command) (answer : ℕ) (told : Option Folder) (before after : Seen (List ℕ)) (failed : Bool) → c.verb ≡ verb.Run → (c.subunit ≡ true → packets_for (task_with folder verb.Run c) answer told before after failed) → streams folder c ≡ true → packets_for (task_of folder c) answer told before after failed
run_streams folder c answer told before after failed is prints = subst (λ (v : Verb). streams_for c.subunit (task_with folder v c) ≡ true → packets_for (task_with folder v c) answer told before after failed) (sym is) prints

drawn_silent : (drawn : Option SelfTestWords) (kind : LiveKind) → live_for kind (option_map selftest drawn) ≡ Nothing
drawn_silent None kind = refl
drawn_silent (Some drawing) kind = refl

-- no other command says lines, as a load does
pub no_lines_of : (folder : List ℕ) (v : Verb) (c : Command) → (v ≡ verb.Run → ⊥) → (v ≡ verb.Load → ⊥) → live_for c.live (task_with folder v c) ≡ Nothing
no_lines_of folder verb.Run c other not_load = absurd (other refl)
no_lines_of folder verb.Load c other not_load = absurd (not_load refl)
no_lines_of folder verb.SelfTest c other not_load = drawn_silent (drawing_of c) c.live
no_lines_of folder v c other not_load = refl

drawn_whole : (drawn : Option SelfTestWords) (stream : Bool) → streams_for stream (option_map selftest drawn) ≡ false
drawn_whole None stream = refl
drawn_whole (Some drawing) stream = refl

-- nor prints packets
pub no_stream_of : (folder : List ℕ) (v : Verb) (c : Command) → (v ≡ verb.Run → ⊥) → (v ≡ verb.Load → ⊥) → streams_for c.subunit (task_with folder v c) ≡ false
no_stream_of folder verb.Run c other not_load = absurd (other refl)
no_stream_of folder verb.Load c other not_load = absurd (not_load refl)
no_stream_of folder verb.SelfTest c other not_load = drawn_whole (drawing_of c) c.subunit
no_stream_of folder v c other not_load = refl

-- ---- where no program and no thread can be started

quiet_drawn_silent : (drawn : Option SelfTestWords) (kind : LiveKind) → live_for kind (quiet_of (option_map selftest drawn)) ≡ Nothing
quiet_drawn_silent None kind = refl
quiet_drawn_silent (Some drawing) kind = refl

pub quiet_no_lines : (folder : List ℕ) (v : Verb) (c : Command) → (v ≡ verb.Load → ⊥) → live_for c.live (quiet_of (task_with folder v c)) ≡ Nothing
quiet_no_lines folder verb.Load c not_load = absurd (not_load refl)
quiet_no_lines folder verb.SelfTest c not_load = quiet_drawn_silent (drawing_of c) c.live
quiet_no_lines folder v c not_load = refl

quiet_drawn_whole : (drawn : Option SelfTestWords) (stream : Bool) → streams_for stream (quiet_of (option_map selftest drawn)) ≡ false
quiet_drawn_whole None stream = refl
quiet_drawn_whole (Some drawing) stream = refl

pub quiet_no_stream : (folder : List ℕ) (v : Verb) (c : Command) → (v ≡ verb.Load → ⊥) → streams_for c.subunit (quiet_of (task_with folder v c)) ≡ false
quiet_no_stream folder verb.Load c not_load = absurd (not_load refl)
quiet_no_stream folder verb.SelfTest c not_load = quiet_drawn_whole (drawing_of c) c.subunit
quiet_no_stream folder v c not_load = refl

-- what is said and printed of a task is so of one that it is
pub task_says : {read asked : Option Task} (kind : LiveKind) (before after : Outside) (answer : ℕ) → read ≡ asked → Saying (live_for kind read) read (Answers false read) before after answer → Saying (live_for kind asked) asked (Answers false asked) before after answer
task_says kind before after answer is says = subst (λ (task : Option Task). Saying (live_for kind task) task (Answers false task) before after answer) is says

pub task_streams : {read asked : Option Task} (stream : Bool) (answer : ℕ) (told : Option Folder) (before after : Seen (List ℕ)) (failed : Bool) → read ≡ asked → (streams_for stream read ≡ true → packets_for read answer told before after failed) → streams_for stream asked ≡ true → packets_for asked answer told before after failed
task_streams stream answer told before after failed is prints = subst (λ (task : Option Task). streams_for stream task ≡ true → packets_for task answer told before after failed) is prints
