-- What is said while a run goes on, to the errors' sink and to the output, and what is promised beside it (docs/COMMANDS.md, "Live
-- lines").
use Rattle.std.specs.Prelude.{◌≡◌, ◌⊎◌, ℕ, ◌≤◌, Bool, true, false, Option, None, Some, IfSome, All, List, [], Result, Ok, Err}
use Rattle.edge_io.specs.Causes.{Rose}
use Rattle.edge_io.specs.Disk.{Folder}
use Rattle.edge_io.specs.Seen.{Seen}
use Rattle.live_text.specs.Live.{live_so_far, live_text}
use Rattle.live_text.specs.declared.live.Live.{Live}
use Rattle.live_text.specs.declared.live.Live.TheVariants as live
use Rattle.packet_codec.specs.Canonical.{IsEvent, Fits}
use Rattle.packet_codec.specs.declared.event.Event.{Event}
use Rattle.speaker.specs.Speaking.{Takes}
use Rattle.suite_run.specs.declared.run_listener.Echo.{Echo}
use Rattle.suite_run.specs.declared.run_listener.Echo.TheVariants as echo
use Rattle.suite_run.specs.declared.run_listener.Shown.{Shown}
use Rattle.testr_words.specs.Suites.{is_partial}
use Rattle.testr_words.specs.Tasks.{Task, load, run}
use Rattle.testr_words.specs.declared.command.Command.{Command}
use Rattle.testr_words.specs.declared.live_kind.LiveKind.{LiveKind}
use Rattle.testr_words.specs.declared.live_kind.LiveKind.TheVariants.{Nothing, Tests, Failures, Dots}
use Rattle.command_steps.specs.Outside.{Outside}
use Rattle.command_steps.specs.Runs.{run_bytes}
use Rattle.command_steps.specs.Speaking.{EndsWithRun}
use Rattle.command_steps.specs.Refusals.{refusal_text}
use Rattle.command_steps.specs.declared.answer.Refusal.{Refusal}
use Rattle.command_steps.specs.declared.answer.Refusal.TheVariants.{Print}
use Rattle.command_steps.specs.declared.answer.Verdict.{Verdict}
use Rattle.command_steps.specs.declared.run_report.PrintFault.{PrintFault}
use Rattle.testr_commands.specs.Program.{Tells}

-- the lines of the kind that words ask for
abbrev pub live_of_kind : LiveKind → Live
live_of_kind Nothing = live.Nothing
live_of_kind Tests = live.Tests
live_of_kind Failures = live.Failures
live_of_kind Dots = live.Dots

-- the packets, where they are asked for
abbrev pub echo_of : Bool → Echo
echo_of true = echo.Packets
echo_of false = echo.Nothing

-- what the command asks to be said of its run
abbrev pub shown_of : Command → Shown
shown_of command = record { live = live_of_kind command.live; echo = echo_of command.subunit }

-- ---- what a sink takes

-- what a sink takes of what is said, by the answer, the folder then, the sink before and after, and whether it has failed
abbrev pub Taking : Type 1
Taking = ℕ → Option Folder → Seen (List ℕ) → Seen (List ℕ) → Bool → Type 0

-- nothing is said
abbrev pub TakesNone : Taking
TakesNone answer folder before after failed = (after ≡ before) × (failed ≡ false)

-- Each of these is an event that has a packet. So no other list of such events has these packets.
pub record HavePackets (events : List Event) : Type 0 where
  pub are_events : All IsEvent events
  pub fit : All Fits events

-- The lines of a run. Where the answer is 0 or 1 the folder shows a run of these events last, and the sink took all lines of it;
-- where it is 3, of a call that refuses so before it records anything, none. At any other exit the sink took those of some events,
-- up to the end, or all, and then the folder shows a run of these events last. Where the sink failed it took a first part of them.
pub record TakesLines (kind : Live) (early partial : Bool) (answer : ℕ) (folder : Option Folder) (before after : Seen (List ℕ)) (failed : Bool) : Type 0 where
  pub whole : answer ≤ 1 → (events : List Event) × HavePackets events × IfSome folder (EndsWithRun partial events) × Takes (live_text kind events) before after failed
  pub none : early ≡ true → answer ≡ 3 → after ≡ before
  pub some : (events : List Event) × HavePackets events × (Takes (live_so_far kind events) before after failed ⊎ (IfSome folder (EndsWithRun partial events) × Takes (live_text kind events) before after failed))

-- The packets of a run. Where the answer is 0 or 1 the folder shows a run of these events last, and the sink took all packets of it;
-- where it is 3, of a call that refuses so before it records anything, none. At any other exit it took those of some events. Where it
-- failed it took a first part of them.
pub record TakesPackets (early partial : Bool) (answer : ℕ) (folder : Option Folder) (before after : Seen (List ℕ)) (failed : Bool) : Type 0 where
  pub whole : answer ≤ 1 → (events : List Event) × HavePackets events × IfSome folder (EndsWithRun partial events) × Takes (run_bytes events) before after failed
  pub none : early ≡ true → answer ≡ 3 → after ≡ before
  pub some : (events : List Event) × HavePackets events × Takes (run_bytes events) before after failed

-- ---- lines to the errors' sink

-- a sink that never fails, and does not tell what it takes
abbrev pub nowhere : Seen (List ℕ)
nowhere = record { told = None; faults = 0 }

-- the outside with that sink in place of the errors' own
abbrev pub without_errors : Outside → Outside
without_errors w = record w { errors = nowhere }

-- What is promised behind lines. Where the errors' sink has failed, nothing more is written there, and all else is as with one that
-- never fails in its place. Else all is as if that sink had been, before the call, what it is behind the lines.
abbrev pub Behind : (failed : Bool) → (spoken : Seen (List ℕ)) → (promises : Outside → Outside → ℕ → Type 0) → Outside → Outside → ℕ → Type 0
Behind true spoken promises before after answer = (after.errors ≡ spoken) × promises (without_errors before) (without_errors after) answer
Behind false spoken promises before after answer = promises (record before { errors = spoken }) after answer

-- Lines were said first, and the rest is promised behind them.
pub record SaysLinesFirst (lines : Taking) (promises : Outside → Outside → ℕ → Type 0) (before after : Outside) (answer : ℕ) : Type 0 where
  -- the errors' sink behind the lines, and whether it has failed
  pub spoken : Seen (List ℕ)
  pub failed : Bool
  pub said : lines answer after.folder.told before.errors spoken failed
  pub rest : Behind failed spoken promises before after answer

-- The lines that are said of a task: of one that keeps a run. A load may find what it refuses in a later file.
abbrev pub lines_for : LiveKind → Option Task → Taking
lines_for kind (Some (load options names)) = TakesLines (live_of_kind kind) false options.partial
lines_for kind (Some (run options)) = TakesLines (live_of_kind kind) true (is_partial options)
lines_for kind asked = TakesNone

-- What is promised of a task that says lines of this kind. Where they are of no kind, nothing is said, and all is as without.
abbrev pub Saying : LiveKind → Option Task → (promises : Outside → Outside → ℕ → Type 0) → Outside → Outside → ℕ → Type 0
Saying Nothing asked promises = promises
Saying Tests asked promises = SaysLinesFirst (lines_for Tests asked) promises
Saying Failures asked promises = SaysLinesFirst (lines_for Failures asked) promises
Saying Dots asked promises = SaysLinesFirst (lines_for Dots asked) promises

-- what is told of an outcome: of a refusal its line, behind what the program said that it is of
abbrev pub outcome_text : Result Verdict Refusal → List ℕ
outcome_text (Ok verdict) = []
outcome_text (Err refusal) = refusal_text refusal

-- ---- packets to the output

-- the packets that are printed of a task: of one that keeps a run
abbrev pub packets_for : Option Task → Taking
packets_for (Some (load options names)) = TakesPackets false options.partial
packets_for (Some (run options)) = TakesPackets true (is_partial options)
packets_for asked = TakesNone

-- How a call ends that prints packets, where it would have answered `inner` else. A refusal stands. What was done is 0, whatever
-- failed of its tests; but where the output has failed it is 4, and a line tells so, unless the errors' sink has failed before.
pub record EndsStream (failed silent : Bool) (inner : ℕ) (told after : Seen (List ℕ)) (answer : ℕ) : Type 0 where
  pub refused : 2 ≤ inner → (answer ≡ inner) × (after ≡ told)
  pub done : inner ≤ 1 → failed ≡ false → (answer ≡ 0) × (after ≡ told)
  pub code : inner ≤ 1 → failed ≡ true → answer ≡ 4
  pub line : inner ≤ 1 → failed ≡ true → silent ≡ false → (fault : PrintFault) × Tells (Err (Print fault)) told after answer
  pub no_line : silent ≡ true → after ≡ told

-- The packets went to the output as the run was recorded. Of all else the call promises what it does with an output that never
-- fails in its place, up to its end.
pub record Streams (packets : Taking) (promises : Outside → Outside → ℕ → Type 0) (before after : Outside) (answer : ℕ) : Type 0 where
  -- what it would have answered, and the errors' sink then
  pub inner : ℕ
  pub told : Seen (List ℕ)
  pub rest : promises (record before { out = nowhere }) (record after { out = nowhere; errors = told }) inner
  -- whether the output has failed, and the errors' sink: the latter exactly where its count rose, of a call that told no refusal
  pub failed : Bool
  pub silent : Bool
  pub silent_is : silent ≡ true → Rose before.errors.faults told.faults
  pub heard_is : silent ≡ false → inner ≤ 1 → told.faults ≡ before.errors.faults
  pub printed : packets inner after.folder.told before.out after.out failed
  pub ends : EndsStream failed silent inner told after.errors answer
