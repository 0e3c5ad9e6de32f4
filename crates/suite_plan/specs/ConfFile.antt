-- The configuration of a project, in its file (docs/FORMATS.md, "The configuration").
use Rattle.std.specs.Prelude.{◌≡◌, ⊤, ℕ, Bool, true, false, Option, None, Some, IfSome, IfOk, IfErr, List, length, Result, Ok, Err, codes, nat_lt, if◌then◌else◌}
use Rattle.edge_io.specs.Causes.{RisesExactlyIf}
use Rattle.edge_io.specs.Disk.{Files}
use Rattle.edge_io.specs.Seen.{Seen}
use Rattle.edge_io.specs.declared.whole_file.ReadFault.{ReadFault}
use Rattle.edge_io.specs.declared.whole_file.ReadFault.TheVariants as read
use Rattle.stestr_conf.specs.Command.{settled_values}
use Rattle.stestr_conf.specs.Table.{table_of}
use Rattle.stestr_conf.specs.declared.settled_values.SettleFault.{SettleFault}
use Rattle.stestr_conf.specs.declared.settled_values.SettleFault.TheVariants as settle
use Rattle.stestr_conf.specs.declared.table.TableFault.{TableFault}
use Rattle.stestr_conf.specs.declared.table.TableFault.TheVariants as table
use Rattle.suite_plan.specs.Texts.{most_text}
use Rattle.suite_plan.specs.declared.conf_file.BadConf.TheVariants.{TooLong, BadLine, NoSection, Repeated, NoInstances, NoCommand, NoTestPath, NotToml, NotTable, BadValue}
use Rattle.suite_plan.specs.declared.conf_file.ConfFile.{ConfFile}
use Rattle.suite_plan.specs.declared.conf_file.ConfFile.TheVariants.{TestrConf, StestrConf, PyProject}
use Rattle.suite_plan.specs.declared.conf_file.ConfRefusal.{ConfRefusal}
use Rattle.suite_plan.specs.declared.conf_file.ConfRefusal.TheVariants.{Site, Absent, Bad, NoMemory}
use Rattle.testr_conf.specs.Settings.{Settings, conf_of, settings_in, grouped_by, with_arguments, on_instances, asks_instances}
use Rattle.testr_conf.specs.Stestr.{stestr_of}
use Rattle.testr_conf.specs.declared.fault.ConfFault.{ConfFault}
use Rattle.testr_conf.specs.declared.fault.ConfFault.TheVariants as fault
use Rattle.testr_conf.specs.declared.stestr.StestrValues.{StestrValues}
use Rattle.testr_words.specs.Suites.{Project}
use Rattle.testr_words.specs.declared.command.Face.{Face}
use Rattle.testr_words.specs.declared.command.Face.TheVariants.{Testr, Stestr}
use Rattle.testr_words.specs.declared.command.ProjectWords.{ProjectWords}

-- the name of each file
abbrev pub conf_file_name : ConfFile → List ℕ
conf_file_name TestrConf = codes ".testr.conf"
conf_file_name StestrConf = codes ".stestr.conf"
conf_file_name PyProject = codes "pyproject.toml"

-- the file that is looked for first
abbrev pub first_file : Face → ConfFile
first_file Testr = TestrConf
first_file Stestr = StestrConf

-- the file that is looked for where that is not there
abbrev pub second_file : Face → ConfFile
second_file Testr = StestrConf
second_file Stestr = TestrConf

-- ---- refusals

-- the refusal of a file that was not read whole
abbrev pub unread_conf : ConfFile → ReadFault → ConfRefusal
unread_conf file read.Failed = Site
unread_conf file read.TooLong = Bad file TooLong
unread_conf file read.NoMemory = NoMemory

-- the refusal of a file whose lines are refused: which file that is and what is wrong with it, or that memory was
-- wanting
abbrev pub refused_lines : ConfFile → ConfFault → ConfRefusal
refused_lines file (fault.BadLine number) = Bad file (BadLine number)
refused_lines file (fault.NoSection number) = Bad file (NoSection number)
refused_lines file (fault.Repeated number) = Bad file (Repeated number)
refused_lines file fault.NoCommand = Bad file NoCommand
refused_lines file fault.NoMemory = NoMemory

-- the refusal of a file of stestr whose values give no settings, by the same rule
abbrev pub refused_values : ConfFile → SettleFault → ConfRefusal
refused_values file settle.NoTestPath = Bad file NoTestPath
refused_values file settle.NoMemory = NoMemory

-- the refusal of a `pyproject.toml`: no TOML, no table where one should be, a bad value, or that memory was wanting
abbrev pub refused_table : TableFault → ConfRefusal
refused_table table.NotToml = Bad PyProject NotToml
refused_table table.NotTable = Bad PyProject NotTable
refused_table (table.BadValue key) = Bad PyProject (BadValue key)
refused_table table.NoMemory = NoMemory

-- ---- what a file says

-- what the lines of a `.testr.conf` say
abbrev pub lines_say : Result Settings ConfFault → Result (Option Settings) ConfRefusal
lines_say (Ok settings) = Ok (Some settings)
lines_say (Err fault) = Err (refused_lines TestrConf fault)

-- the settings that the values of a file give
abbrev pub settings_say : ConfFile → Result Settings SettleFault → Result (Option Settings) ConfRefusal
settings_say file (Ok settings) = Ok (Some settings)
settings_say file (Err fault) = Err (refused_values file fault)

-- what the values of a file say, where these words stand before them
abbrev pub values_say : ProjectWords → ConfFile → StestrValues → Result (Option Settings) ConfRefusal
values_say words file values = settings_say file (settled_values words.test_path words.top_dir values)

-- what the lines of a `.stestr.conf` say
abbrev pub stestr_says : ProjectWords → Result StestrValues ConfFault → Result (Option Settings) ConfRefusal
stestr_says words (Ok values) = values_say words StestrConf values
stestr_says words (Err fault) = Err (refused_lines StestrConf fault)

-- what the table of a `pyproject.toml` says; nothing where there is none
abbrev pub table_says : ProjectWords → Result (Option StestrValues) TableFault → Result (Option Settings) ConfRefusal
table_says words (Ok None) = Ok None
table_says words (Ok (Some values)) = values_say words PyProject values
table_says words (Err fault) = Err (refused_table fault)

-- what the text of a file says
abbrev pub text_says : ProjectWords → ConfFile → List ℕ → Result (Option Settings) ConfRefusal
text_says words TestrConf text = lines_say (conf_of text)
text_says words StestrConf text = stestr_says words (stestr_of text)
text_says words PyProject text = table_says words (table_of text)

-- what a file says that may not be there; it must not be too long
abbrev pub file_by : ProjectWords → ConfFile → Option (List ℕ) → Result (Option Settings) ConfRefusal
file_by words file None = Ok None
file_by words file (Some text) = if nat_lt most_text (length text) then Err (Bad file TooLong) else text_says words file text

-- what this one of the files says
abbrev pub file_says : ProjectWords → ConfFile → Files → Result (Option Settings) ConfRefusal
file_says words file files = file_by words file (files (conf_file_name file))

-- ---- what the files say

-- what a file says of the configuration, and where it says nothing, what comes next; a refusal stands
abbrev pub or_next : Result (Option Settings) ConfRefusal → Result (Option Settings) ConfRefusal → Result (Option Settings) ConfRefusal
or_next (Ok None) next = next
or_next (Ok (Some settings)) next = Ok (Some settings)
or_next (Err refusal) next = Err refusal

-- what the files say where the first is not there
abbrev pub later_say : Face → ProjectWords → Files → Result (Option Settings) ConfRefusal
later_say face words files = or_next (file_says words (second_file face) files) (file_says words PyProject files)

-- what the files say one after another
abbrev pub files_say : Face → ProjectWords → Files → Result (Option Settings) ConfRefusal
files_say face words files = or_next (file_says words (first_file face) files) (later_say face words files)

-- some file has to give settings; where none does, the configuration is refused as absent
abbrev pub required : Result (Option Settings) ConfRefusal → Result Settings ConfRefusal
required (Ok None) = Err Absent
required (Ok (Some settings)) = Ok settings
required (Err refusal) = Err refusal

-- the settings, in the folder of this path, with the groups and the arguments that the words say
abbrev pub project_settings : List ℕ → ProjectWords → Settings → Settings
project_settings folder words settings = with_arguments words.arguments (grouped_by words.group_regex (settings_in folder settings))

-- what is said, of this project
abbrev pub settings_for : Project → Result Settings ConfRefusal → Result Settings ConfRefusal
settings_for project (Ok settings) = Ok (project_settings project.folder project.words settings)
settings_for project (Err refusal) = Err refusal

-- what the files of this project say of its configuration, wherever its jobs run
abbrev pub own_conf_in : Project → Files → Result Settings ConfRefusal
own_conf_in project files = settings_for project (required (files_say project.face project.words files))

-- ---- where its jobs run

-- the settings, unless they ask for instances: where none were provisioned, no job runs
abbrev pub unless_elsewhere : Settings → Result Settings ConfRefusal
unless_elsewhere settings = if asks_instances settings then Err (Bad TestrConf NoInstances) else Ok settings

-- the settings on the instances that were provisioned, or here
abbrev pub placed_on : Option (List (List ℕ)) → Settings → Result Settings ConfRefusal
placed_on None settings = unless_elsewhere settings
placed_on (Some instances) settings = Ok (on_instances instances settings)

-- what is said of the configuration, there or here
abbrev pub said_there : Option (List (List ℕ)) → Result Settings ConfRefusal → Result Settings ConfRefusal
said_there instances (Ok settings) = placed_on instances settings
said_there instances (Err refusal) = Err refusal

-- what the files of this project say of its configuration
abbrev pub conf_in : Project → Files → Result Settings ConfRefusal
conf_in project files = said_there project.words.instances (own_conf_in project files)

-- the files give these settings, wherever the jobs run
abbrev pub GivesOwnSettings : Project → Settings → Files → Type 0
GivesOwnSettings project settings files = own_conf_in project files ≡ Ok settings

-- the files give these settings
abbrev pub GivesSettings : Project → Settings → Files → Type 0
GivesSettings project settings files = conf_in project files ≡ Ok settings

-- The refusal is what is said; but a fault or want of memory may come before anything is said.
abbrev pub HasConfCause : {T : Type 0} → Result T ConfRefusal → ConfRefusal → Type 0
HasConfCause said Site = ⊤
HasConfCause said Absent = said ≡ Err Absent
HasConfCause said (Bad file why) = said ≡ Err (Bad file why)
HasConfCause said NoMemory = ⊤

-- the configuration was refused since a read of a file failed
abbrev pub conf_failed : {T : Type 0} → Result T ConfRefusal → Bool
conf_failed (Ok value) = false
conf_failed (Err Site) = true
conf_failed (Err Absent) = false
conf_failed (Err (Bad file why)) = false
conf_failed (Err NoMemory) = false

-- The step that reads what files say of the configuration. What it says of files holds where they are told.
pub record ReadsSaid {T : Type 0} (said : Files → Result T ConfRefusal) (before after : Seen Files) (result : Result T ConfRefusal) : Type 0 where
  pub conf : IfOk result (λ value. IfSome before.told (λ files. said files ≡ Ok value))
  pub refused : IfErr result (λ refusal. IfSome before.told (λ files. HasConfCause (said files) refusal))
  pub same : after.told ≡ before.told
  pub count : RisesExactlyIf before.faults after.faults (conf_failed result)

-- the step that reads the configuration of this project, wherever its jobs run
abbrev pub ReadsOwnConf : Project → Seen Files → Seen Files → Result Settings ConfRefusal → Type 0
ReadsOwnConf project before after result = ReadsSaid (own_conf_in project) before after result

-- the step that reads the configuration of this project
abbrev pub ReadsConf : Project → Seen Files → Seen Files → Result Settings ConfRefusal → Type 0
ReadsConf project before after result = ReadsSaid (conf_in project) before after result
