-- What a whole call of `testr` promises: that it may tell first that there are not so many workers, may say lines and packets
-- while a run goes on, may print no report, and may tell at its end which tests did not run (docs/COMMANDS.md, "Words").
use Rattle.std.specs.Prelude.{◌≡◌, ◌⊎◌, ℕ, Bool, true, false, Option, None, Some, List, [], ◌∷◌, ◌++◌, codes, Result}
use Rattle.std.specs.Io.KnownBytes.{Appends}
use Rattle.edge_io.specs.Bytes.{AppendsPrefix}
use Rattle.edge_io.specs.Causes.{Rose}
use Rattle.edge_io.specs.Seen.{Seen}
use Rattle.command_steps.specs.Outside.{Outside, work_of}
use Rattle.command_steps.specs.declared.answer.Verdict.{Verdict}
use Rattle.command_steps.specs.declared.answer.Refusal.{Refusal}
use Rattle.testr_words.specs.Tasks.{Task}
use Rattle.testr_words.specs.Words.{asked_by, forced_by, hidden_by, live_by, streamed_by, warned_by, expected_by}
use Rattle.testr_words.specs.declared.command.Face.{Face}
use Rattle.testr_words.specs.declared.live_kind.LiveKind.{LiveKind}
use Rattle.suite_plan.specs.Choosing.{Ids}
use Rattle.testr_commands.specs.Endings.{Adding, Expecting, Readied}
use Rattle.testr_commands.specs.Forced.{PromisesBy}
use Rattle.testr_commands.specs.Program.{GivesUp, Tells}
use Rattle.testr_commands.specs.Spoken.{nowhere, Saying, Streams, packets_for}

-- ---- without a report

-- the outside with an output that never fails, and does not tell what it takes, in place of its own
abbrev pub without_out : Outside → Outside
without_out w = record w { out = nowhere }

-- The output is as it was. Of all else the call promises what it does with an output that never fails in its place.
pub record Hides (promises : Outside → Outside → ℕ → Type 0) (before after : Outside) (answer : ℕ) : Type 0 where
  pub out : after.out ≡ before.out
  pub rest : promises (without_out before) (without_out after) answer

-- what each call promises that is asked for this and of which these ids are expected: at its end it tells which tests did not run
abbrev pub PromisesEnding : (force reading : Bool) → (expected : Option Ids) → Option Task → Outside → Outside → ℕ → Type 0
PromisesEnding force reading expected asked = Adding Readied expected asked (PromisesBy force reading asked)

-- what each call promises that is asked for this, where `hide` says whether no report is printed
abbrev pub PromisesHiding : (hide force reading : Bool) → (expected : Option Ids) → Option Task → Outside → Outside → ℕ → Type 0
PromisesHiding true force reading expected asked = Hides (PromisesEnding force reading expected asked)
PromisesHiding false force reading expected asked = PromisesEnding force reading expected asked

-- ---- with lines and packets while a run goes on

-- What each call promises that is asked for this, where `stream` says whether packets are printed, and `kind` which lines are said.
-- Where packets are printed there is no report, whatever `hide` says.
abbrev pub PromisesSaying : (stream : Bool) → LiveKind → (hide force reading : Bool) → (expected : Option Ids) → Option Task → Outside → Outside → ℕ → Type 0
PromisesSaying true kind hide force reading expected asked = Streams (packets_for asked) (Saying kind asked (PromisesEnding force reading expected asked))
PromisesSaying false kind hide force reading expected asked = Saying kind asked (PromisesHiding hide force reading expected asked)

-- ---- with a line on the number of workers

-- the line that tells that there are not so many workers
abbrev pub most_workers_text : List ℕ
most_workers_text = codes "testr: --concurrency: 64 workers at most" ++ 10 ∷ []

-- that line went to the errors' sink: whole, or in part where that sink failed
abbrev pub TellsMost : Seen (List ℕ) → Seen (List ℕ) → Type 0
TellsMost before after = AppendsPrefix before.told after.told most_workers_text × (Appends before.told after.told most_workers_text ⊎ Rose before.faults after.faults)

-- The line was told before anything else. From there on the call promises what it does without it.
pub record Warns (promises : Outside → Outside → ℕ → Type 0) (before after : Outside) (answer : ℕ) : Type 0 where
  pub warned : Seen (List ℕ)
  pub tells : TellsMost before.errors warned
  pub rest : promises (record before { errors = warned }) after answer

-- memory was wanting while the words were read, and nothing was touched
pub record ReadsNot (before after : Outside) (answer : ℕ) : Type 0 where
  pub outcome : Result Verdict Refusal
  pub gives : GivesUp (work_of before) (work_of after) outcome
  pub told : Tells outcome before.errors after.errors answer

-- what each call promises for a command that is asked for this, where this list, or none, tells what is expected
abbrev pub PromisesExpecting : (stream : Bool) → LiveKind → (hide force : Bool) → (expect : Option (List ℕ)) → Option Task → Outside → Outside → ℕ → Type 0
PromisesExpecting stream kind hide force expect asked = Expecting expect (λ expected. PromisesSaying stream kind hide force false expected asked)

-- What each call promises for a command that is asked for this, where `warn` says whether the line is told.
abbrev pub PromisesCommand : (warn stream : Bool) → LiveKind → (hide force : Bool) → (expect : Option (List ℕ)) → Option Task → Outside → Outside → ℕ → Type 0
PromisesCommand true stream kind hide force expect asked = Warns (PromisesExpecting stream kind hide force expect asked)
PromisesCommand false stream kind hide force expect asked = PromisesExpecting stream kind hide force expect asked

-- The same for words. Memory may be wanting for them, and then nothing was read and nothing told before.
abbrev pub PromisesUnwarned : (stream : Bool) → LiveKind → (hide force : Bool) → (expect : Option (List ℕ)) → Option Task → Outside → Outside → ℕ → Type 0
PromisesUnwarned stream kind hide force None asked before after answer = PromisesSaying stream kind hide force true None asked before after answer
PromisesUnwarned stream kind hide force (Some name) asked before after answer = PromisesExpecting stream kind hide force (Some name) asked before after answer ⊎ ReadsNot before after answer

-- the same, with the line or without
abbrev pub PromisesWords : (warn stream : Bool) → LiveKind → (hide force : Bool) → (expect : Option (List ℕ)) → Option Task → Outside → Outside → ℕ → Type 0
PromisesWords true stream kind hide force expect asked before after answer = Warns (PromisesExpecting stream kind hide force expect asked) before after answer ⊎ ReadsNot before after answer
PromisesWords false stream kind hide force expect asked before after answer = PromisesUnwarned stream kind hide force expect asked before after answer

-- what `testr` promises, by this face, for all its words, for a project in the folder of this path whose tests run here
abbrev pub PromisesHere : List ℕ → Face → List (List ℕ) → Outside → Outside → ℕ → Type 0
PromisesHere folder face words = PromisesWords (warned_by folder face words) (streamed_by folder face words) (live_by folder face words) (hidden_by folder face words) (forced_by folder face words) (expected_by folder face words) (asked_by folder face words)
