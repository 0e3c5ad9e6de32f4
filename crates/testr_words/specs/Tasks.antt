-- What a command asks for.
use Rattle.std.specs.Prelude.{Bool, true, false, nat_le, Option, Some, None, option_map, List, ℕ, length, if◌then◌else◌}
use Rattle.testr_words.specs.Drawings.{drawing_of}
use Rattle.testr_words.specs.Suites.{LoadOptions, ListOptions, RunOptions, load_options, list_options, run_options}
use Rattle.testr_words.specs.declared.command.Verb.{Verb}
use Rattle.testr_words.specs.declared.command.Verb.TheVariants as verb
use Rattle.testr_words.specs.declared.command.Command.{Command}
use Rattle.testr_words.specs.declared.format.FormatKind.{FormatKind}
use Rattle.testr_words.specs.declared.format.FormatKind.TheVariants.{Plain, Github}
use Rattle.testr_words.specs.declared.live_kind.LiveKind.{LiveKind}
use Rattle.testr_words.specs.declared.live_kind.LiveKind.TheVariants.{Nothing}
use Rattle.testr_words.specs.declared.command.Question.{Question}
use Rattle.testr_words.specs.declared.command.Question.TheVariants.{Last, Skips, Notes, Failing, LastFailures, FailurePackets, Slowest, Stats}
use Rattle.testr_words.specs.declared.selftest_words.SelfTestWords.{SelfTestWords}

-- what is done for a command
pub data Task : Type 0 where
  -- a repository is made
  init : Task
  -- a run is kept, full or partial, of the input or of these files, and its report printed
  load : LoadOptions → List (List ℕ) → Task
  -- a question is answered of the runs
  ask : Question → Task
  -- the ids of the project's tests that are wanted are printed
  list : ListOptions → Task
  -- tests of the project are run
  run : RunOptions → Task
  -- made-up workers are run in memory, and summed up
  selftest : SelfTestWords → Task
  -- a folder of the original tool becomes a repository
  upgrade : Task

-- the report of the last run, with why tests were skipped or without, and with notes where a build server reads it
abbrev pub report_question : FormatKind → (skips : Bool) → Question
report_question Plain skips = if skips then Skips else Last false
report_question Github skips = Notes skips

-- What `last` asks: for the run's bytes, where these are wanted, or else for its report, with why tests were skipped or
-- without, and with notes or without.
abbrev pub last_question : Command → Question
last_question command = if command.subunit then Last true else report_question command.format command.skips

-- What `failing` asks: for the packets of how each test failed last, where they are wanted, or else for the list of the ids, or
-- for how each test failed last, or for the ids with their number.
abbrev pub failing_question : Command → Question
failing_question command =
    if command.subunit then FailurePackets
    else (if command.list then Failing true
    else (if command.full then LastFailures
    else Failing false))

-- what is done for a command of this verb, for a project in the folder of this path
abbrev pub task_with : List ℕ → Verb → Command → Option Task
task_with folder verb.Init command = Some init
task_with folder verb.Load command = if nat_le (length command.names) 64 then Some (load (load_options command) command.names) else None
task_with folder verb.Run command = Some (run (run_options folder command))
task_with folder verb.Last command = Some (ask (last_question command))
task_with folder verb.Failing command = Some (ask (failing_question command))
task_with folder verb.Slowest command = Some (ask (Slowest command.all))
task_with folder verb.Stats command = Some (ask Stats)
task_with folder verb.ListTests command = Some (list (list_options folder command))
task_with folder verb.SelfTest command = option_map selftest (drawing_of command)
task_with folder verb.Upgrade command = Some upgrade

-- what is done for a command; none where it is not one of those that are done
abbrev pub task_of : List ℕ → Command → Option Task
task_of folder command = task_with folder command.verb command

-- what is done of it where no program and no thread can be started
abbrev pub quiet_of : Option Task → Option Task
quiet_of (Some (list options)) = None
quiet_of (Some (run options)) = None
quiet_of (Some (selftest drawing)) = None
quiet_of asked = asked

-- Whether a repository is made first where there is none, as `--force-init` asks: only for a task that keeps a run.
abbrev pub forces_for : Bool → Option Task → Bool
forces_for force (Some (load options names)) = force
forces_for force (Some (run options)) = force
forces_for force asked = false

-- whether it is made first for the command; the folder of the project decides nothing
abbrev pub forces : List ℕ → Command → Bool
forces folder command = forces_for command.force_init (task_of folder command)

-- the same where no program and no thread can be started
abbrev pub forces_quiet : List ℕ → Command → Bool
forces_quiet folder command = forces_for command.force_init (quiet_of (task_of folder command))

-- Whether no report is printed, as `--quiet` asks: only of a task that prints one, with what stands behind it. The bytes of
-- the last run are none.
abbrev pub hides_for : Bool → Option Task → Bool
hides_for hide (Some (load options names)) = hide
hides_for hide (Some (run options)) = hide
hides_for hide (Some (ask (Last false))) = hide
hides_for hide (Some (ask Skips)) = hide
hides_for hide (Some (ask (Notes skips))) = hide
hides_for hide asked = false

-- whether no report is printed for the command; the folder of the project decides nothing
abbrev pub hides : List ℕ → Command → Bool
hides folder command = hides_for command.no_report (task_of folder command)

-- the same where no program and no thread can be started
abbrev pub hides_quiet : List ℕ → Command → Bool
hides_quiet folder command = hides_for command.no_report (quiet_of (task_of folder command))

-- Which file has the ids of which the run is expected to tell, as `--expect` names it: only of a load.
abbrev pub expects_for : Option (List ℕ) → Option Task → Option (List ℕ)
expects_for expect (Some (load options names)) = expect
expects_for expect asked = None

-- which file has them for the command; the folder of the project decides nothing
abbrev pub expects : List ℕ → Command → Option (List ℕ)
expects folder command = expects_for command.expect (task_of folder command)

-- the same where no program and no thread can be started
abbrev pub expects_quiet : List ℕ → Command → Option (List ℕ)
expects_quiet folder command = expects_for command.expect (quiet_of (task_of folder command))

-- Which lines are told of the tests while their run goes on, as `--live` asks: only of a task that keeps a run.
abbrev pub live_for : LiveKind → Option Task → LiveKind
live_for kind (Some (load options names)) = kind
live_for kind (Some (run options)) = kind
live_for kind asked = Nothing

-- which lines are told for the command; the folder of the project decides nothing
abbrev pub live_of : List ℕ → Command → LiveKind
live_of folder command = live_for command.live (task_of folder command)

-- the same where no program and no thread can be started
abbrev pub live_quiet : List ℕ → Command → LiveKind
live_quiet folder command = live_for command.live (quiet_of (task_of folder command))

-- Whether the run's packets are printed as it goes on, and no report, as `--subunit` asks: only of a task that keeps a run.
abbrev pub streams_for : Bool → Option Task → Bool
streams_for stream (Some (load options names)) = stream
streams_for stream (Some (run options)) = stream
streams_for stream asked = false

-- whether they are printed for the command; the folder of the project decides nothing
abbrev pub streams : List ℕ → Command → Bool
streams folder command = streams_for command.subunit (task_of folder command)

-- the same where no program and no thread can be started
abbrev pub streams_quiet : List ℕ → Command → Bool
streams_quiet folder command = streams_for command.subunit (quiet_of (task_of folder command))

-- Whether a line tells, before anything is done, that there are not so many workers: only of a run.
abbrev pub warns_for : Bool → Option Task → Bool
warns_for too_many (Some (run options)) = too_many
warns_for too_many asked = false

-- whether it is told for the command; the folder of the project decides nothing
abbrev pub warns : List ℕ → Command → Bool
warns folder command = warns_for command.too_many (task_of folder command)
