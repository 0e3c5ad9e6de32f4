-- What a call promises of a project that asks for instances (docs/FORMATS.md, "Instances").
use Rattle.std.specs.Prelude.{◌≡◌, ◌⊎◌, ◌≤◌, ⊤, ℕ, Bool, true, false, Option, Some, None, IfSome, IsSomeAnd, List, Ok, Err}
use Rattle.edge_io.specs.Disk.{Files}
use Rattle.edge_io.specs.Seen.{Seen}
use Rattle.edge_io.specs.Spawners.{Spawning}
use Rattle.suite_plan.specs.ConfFile.{GivesOwnSettings, ReadsOwnConf}
use Rattle.suite_plan.specs.declared.conf_file.ConfRefusal.{ConfRefusal}
use Rattle.suite_plan.specs.declared.conf_file.ConfRefusal.TheVariants as conf
use Rattle.testr_conf.specs.Settings.{Settings, asks_instances}
use Rattle.testr_words.specs.Suites.{project_of, on_these}
use Rattle.testr_words.specs.Tasks.{task_of, warns, streams, live_of, hides, forces, expects}
use Rattle.testr_words.specs.Words.{command_of}
use Rattle.testr_words.specs.declared.command.Command.{Command}
use Rattle.testr_words.specs.declared.command.Face.{Face}
use Rattle.testr_words.specs.declared.command.Verb.{Verb}
use Rattle.testr_words.specs.declared.command.Verb.TheVariants.{Run, ListTests}
use Rattle.command_steps.specs.Instances.{Provides, DisposesOf}
use Rattle.command_steps.specs.Outside.{Outside, Work, work_of}
use Rattle.command_steps.specs.Selecting.{CountsWorkers}
use Rattle.command_steps.specs.Steps.{Step, Gives}
use Rattle.command_steps.specs.declared.answer.Refusal.{Refusal}
use Rattle.command_steps.specs.declared.answer.Refusal.TheVariants.{Provision}
use Rattle.command_steps.specs.declared.instances.Provided.{Provided}
use Rattle.command_steps.specs.declared.instances.Unprovided.{Unprovided}
use Rattle.testr_commands.specs.Forced.{IsMadeReady}
use Rattle.testr_commands.specs.Program.{Tells}
use Rattle.testr_commands.specs.WholeCall.{PromisesCommand, PromisesHere, PromisesSaying, TellsMost}
use Rattle.testr_commands.specs.declared.elsewhere.Look.{Look}
use Rattle.testr_commands.specs.declared.elsewhere.Look.TheVariants.{Here, There, Unread}

-- what each call promises for this command, of a project in the folder of this path whose tests run here
abbrev pub PromisesOf : List ℕ → Command → Outside → Outside → ℕ → Type 0
PromisesOf folder command = PromisesCommand (warns folder command) (streams folder command) (live_of folder command) (hides folder command) (forces folder command) (expects folder command) (task_of folder command)

-- ---- what is found out in front

-- the command has tests of a project run or listed, so the project may ask for instances
abbrev pub HasProject : Verb → Type 0
HasProject Run = ⊤
HasProject ListTests = ⊤
HasProject verb = ⊥

-- the same command, for which no line is told first, and no repository made
abbrev pub plain : Command → Command
plain command = record command { force_init = false; too_many = false }

-- what such a command promises, of which nothing is expected
abbrev pub PromisesPlain : List ℕ → Command → Outside → Outside → ℕ → Type 0
PromisesPlain folder command = PromisesSaying (streams folder command) (live_of folder command) (hides folder command) false false None (task_of folder command)

-- the configuration was not read, since a read failed or memory was wanting, and not for what it says
abbrev pub IsOfOutside : ConfRefusal → Type 0
IsOfOutside conf.Site = ⊤
IsOfOutside conf.Absent = ⊥
IsOfOutside (conf.Bad file why) = ⊥
IsOfOutside conf.NoMemory = ⊤

-- the configuration of the project asks for instances
pub record AsksForInstances (folder : List ℕ) (command : Command) (before : Seen Files) (settings : Settings) : Type 0 where
  pub project : HasProject command.verb
  pub conf : IfSome before.told (GivesOwnSettings (project_of folder command) settings)
  pub asks : asks_instances settings ≡ true

-- The project of a command that has one does not ask for instances: where its files are told, the settings that they give do not,
-- if they give any.
abbrev pub AsksNot : List ℕ → Command → Seen Files → Type 0
AsksNot folder command site = HasProject command.verb → IfSome site.told (λ files. (settings : Settings) → GivesOwnSettings (project_of folder command) settings files → asks_instances settings ≡ false)

-- So it is where a command is done here. Or a call of the outside failed before that was known, or memory was wanting.
abbrev pub IsHere : List ℕ → Command → Seen Files → (answer : ℕ) → Type 0
IsHere folder command site answer = AsksNot folder command site ⊎ (4 ≤ answer)

-- what a look at the configuration found
abbrev pub LooksAhead : List ℕ → Command → (before looked : Seen Files) → Look → Type 0
LooksAhead folder command before looked Here = (looked ≡ before) × AsksNot folder command before
LooksAhead folder command before looked (There settings) = (looked ≡ before) × AsksForInstances folder command before settings
LooksAhead folder command before looked (Unread why) = IsOfOutside why × ReadsOwnConf (project_of folder command) before looked (Err why)

-- For how many workers instances are provisioned: of a run the number that its words say, or its project; of a listing one.
abbrev pub CountsFor : Verb → Command → Settings → Step Work ℕ Refusal
CountsFor Run command settings = CountsWorkers settings command.parallel command.concurrency
CountsFor verb command settings = Gives 1

-- ---- how the call went

-- the workers were not counted, and no instance was provisioned
pub record StopsUncounted (folder : List ℕ) (command : Command) (before after : Outside) (answer : ℕ) : Type 0 where
  pub settings : Settings
  pub asks : AsksForInstances folder command before.site settings
  pub refusal : Refusal
  pub counts : CountsFor command.verb command settings (work_of before) (work_of after) (Err refusal)
  pub told : Tells (Err refusal) before.errors after.errors answer

-- It was told why there are no instances. The dispose job was started where the provision job ended with 0 all the same.
pub record Unprovides (fault : Unprovided) (before after : Seen Spawning) (errors told : Seen (List ℕ)) (answer : ℕ) : Type 0 where
  pub line : Seen (List ℕ)
  pub tells : Tells (Err (Provision fault.refusal)) errors line answer
  pub disposes : DisposesOf fault.disposal before after line told

-- there are none
pub record StopsUnprovided (settings : Settings) (workers : ℕ) (before after : Outside) (answer : ℕ) : Type 0 where
  pub fault : Unprovided
  pub ready : Seen Spawning
  pub provides : Provides settings workers before.spawner ready (Err fault)
  pub stops : Unprovides fault ready after.spawner before.errors after.errors answer
  pub same : after ≡ record before { spawner = after.spawner; errors = after.errors }

-- On these instances the call did what the command does over the project on them, with as many workers as there are, and to its
-- end: whatever it answered is the answer. Behind that the dispose job was started, once, how that ended was told, and nothing else
-- happened.
pub record GoesThere (folder : List ℕ) (command : Command) (given : Provided) (before after : Outside) (answer : ℕ) : Type 0 where
  pub ended : Outside
  pub rest : PromisesOf folder (on_these given.workers given.conf.instances (plain command)) before ended answer
  pub disposes : DisposesOf given.disposal ended.spawner after.spawner ended.errors after.errors
  pub same : after ≡ record ended { spawner = after.spawner; errors = after.errors }

-- instances were provisioned, and all else was done on them
pub record GoesProvided (folder : List ℕ) (command : Command) (settings : Settings) (workers : ℕ) (before after : Outside) (answer : ℕ) : Type 0 where
  pub given : Provided
  pub ready : Seen Spawning
  pub provides : Provides settings workers before.spawner ready (Ok given)
  pub goes : GoesThere folder command given (record before { spawner = ready }) after answer

-- the one or the other, where the workers were counted
abbrev pub GoesCounted : List ℕ → Command → Settings → (workers : ℕ) → Outside → Outside → ℕ → Type 0
GoesCounted folder command settings workers before after answer = StopsUnprovided settings workers before after answer ⊎ GoesProvided folder command settings workers before after answer

-- The project asks for instances, and its workers were counted. From there on these are the programs that were started, in this
-- order: the provision job, those of the command where there are instances, and the dispose job.
pub record GoesOnCounted (folder : List ℕ) (command : Command) (before after : Outside) (answer : ℕ) : Type 0 where
  pub settings : Settings
  pub asks : AsksForInstances folder command before.site settings
  pub workers : ℕ
  pub counted : Outside
  pub counts : CountsFor command.verb command settings (work_of before) (work_of counted) (Ok workers)
  pub still : counted ≡ record before { site = counted.site; spawner = counted.spawner }
  pub goes : GoesCounted folder command settings workers counted after answer

-- the project asks for instances
abbrev pub GoesElsewhere : List ℕ → Command → Outside → Outside → ℕ → Type 0
GoesElsewhere folder command before after answer = StopsUncounted folder command before after answer ⊎ GoesOnCounted folder command before after answer

-- here or elsewhere, where no line is told first, and no repository made
abbrev pub PlainAnywhere : List ℕ → Command → Outside → Outside → ℕ → Type 0
PlainAnywhere folder command before after answer = (PromisesPlain folder command before after answer × IsHere folder command before.site answer) ⊎ GoesElsewhere folder command before after answer

-- the line that there are not so many workers was told, where the command asks for more
abbrev pub TellsMostIf : (warn : Bool) → Seen (List ℕ) → Seen (List ℕ) → Type 0
TellsMostIf true before after = TellsMost before after
TellsMostIf false before after = after ≡ before

-- the folder was made ready, where the command asks for that
abbrev pub ReadiesIf : (force : Bool) → Outside → Outside → Type 0
ReadiesIf true before ready = IsMadeReady before ready
ReadiesIf false before ready = ready ≡ before

-- the folder was made ready so, and the project asks for instances
pub record GoesReady (folder : List ℕ) (command : Command) (before after : Outside) (answer : ℕ) : Type 0 where
  pub ready : Outside
  pub is_ready : ReadiesIf (forces folder command) before ready
  pub goes : GoesElsewhere folder command ready after answer

-- What a call did whose project asks for instances: what stands in front of each run, and then that.
pub record Elsewhere (folder : List ℕ) (command : Command) (before after : Outside) (answer : ℕ) : Type 0 where
  pub told : Seen (List ℕ)
  pub tells : TellsMostIf (warns folder command) before.errors told
  pub goes : GoesReady folder command (record before { errors = told }) after answer

-- here or elsewhere, where no line is told first
abbrev pub ReadiedAnywhere : List ℕ → Command → Outside → Outside → ℕ → Type 0
ReadiedAnywhere folder command before after answer =
    (PromisesSaying (streams folder command) (live_of folder command) (hides folder command) (forces folder command) false None (task_of folder command) before after answer × IsHere folder command before.site answer)
    ⊎ GoesReady folder command before after answer

-- ---- the promises

-- What each call promises for this command: what it does here, where its project does not ask for instances; or elsewhere.
abbrev pub PromisesAnywhere : List ℕ → Command → Outside → Outside → ℕ → Type 0
PromisesAnywhere folder command before after answer = (PromisesOf folder command before after answer × IsHere folder command before.site answer) ⊎ Elsewhere folder command before after answer

-- the command, where there is one, is done here
abbrev pub HereThen : List ℕ → Option Command → Seen Files → (answer : ℕ) → Type 0
HereThen folder None site answer = ⊤
HereThen folder (Some command) site answer = IsHere folder command site answer

-- what a call did elsewhere for a command, where there is one
abbrev pub ElsewhereThen : List ℕ → Option Command → Outside → Outside → ℕ → Type 0
ElsewhereThen folder None before after answer = ⊥
ElsewhereThen folder (Some command) before after answer = Elsewhere folder command before after answer

-- What `testr` promises, by this face, for all its words, for a project in the folder of this path: what is promised of tests that run
-- here, where the project does not ask for instances; or what it does elsewhere.
abbrev pub TestrPromises : List ℕ → Face → List (List ℕ) → Outside → Outside → ℕ → Type 0
TestrPromises folder face words before after answer =
    (PromisesHere folder face words before after answer × HereThen folder (command_of face words) before.site answer)
    ⊎ ElsewhereThen folder (command_of face words) before after answer

-- ---- where it is told whether the project asks for instances

-- it does not: where the files are told the settings that they give do not, if they give any, or the command has no project
abbrev pub AsksNone : List ℕ → Option Command → Seen Files → Type 0
AsksNone folder None site = ⊤
AsksNone folder (Some command) site = HasProject command.verb → IsSomeAnd site.told (λ files. (settings : Settings) → GivesOwnSettings (project_of folder command) settings files → asks_instances settings ≡ false)

-- it does
abbrev pub AsksSome : List ℕ → Option Command → Seen Files → Type 0
AsksSome folder None site = ⊥
AsksSome folder (Some command) site = HasProject command.verb × IsSomeAnd site.told (λ files. (settings : Settings) × (GivesOwnSettings (project_of folder command) settings files × (asks_instances settings ≡ true)))
