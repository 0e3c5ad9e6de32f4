-- What a `.testr.conf` says, and where it or a `.stestr.conf` is refused (docs/FORMATS.md, "The configuration").
use Rattle.std.specs.Prelude.{ℕ, ◌+◌, Bool, true, false, ◌&&◌, Option, None, Some, is_none, is_some, Result, Ok, Err, List, [], ◌∷◌, ◌++◌, length, codes, if◌then◌else◌}
use Rattle.std.specs.List.{fold, find, list_any, take_while, flat_map}
use Rattle.std.specs.Option.{option_map}
use Rattle.std.specs.Str.{bytes_eq}
use Rattle.testr_conf.specs.White.{words_of}
use Rattle.testr_conf.specs.Names.{key_name, named}
use Rattle.testr_conf.specs.Values.{is_unfit}
use Rattle.testr_conf.specs.Lines.{ConfLine, bad, skipped, more, section, setting, conf_lines}
use Rattle.testr_conf.specs.declared.name.Dialect.{Dialect}
use Rattle.testr_conf.specs.declared.name.Dialect.TheVariants.{Testr, Stestr}
use Rattle.testr_conf.specs.declared.name.Name.TheVariants.{Command, IdOption, ListOption, IdList, Concurrency, GroupRegex, FilterTags, Provision, Execute, Dispose}
use Rattle.testr_conf.specs.declared.fault.ConfFault.{ConfFault}
use Rattle.testr_conf.specs.declared.fault.ConfFault.TheVariants.{BadLine, NoSection, Repeated, NoCommand}

-- Which section a line stands in.

-- the name of the last section line, where this line comes behind one of this name
abbrev pub section_after : Option (List ℕ) → ConfLine → Option (List ℕ)
section_after last (section name) = Some name
section_after last (setting key own) = last
section_after last (more depth text line) = last
section_after last skipped = last
section_after last bad = last

-- the section that the lines leave open
abbrev pub section_of : List ConfLine → Option (List ℕ)
section_of lines = fold section_after None lines

-- the section is `DEFAULT`
abbrev pub is_default : Option (List ℕ) → Bool
is_default None = false
is_default (Some name) = bytes_eq name (codes "DEFAULT")

-- The settings.

-- a key and its value
pub record Setting : Type 0 where
  pub key : List ℕ
  pub value : List ℕ

-- a line that does not end the setting above it
abbrev pub is_inner : ConfLine → Bool
is_inner (section name) = false
is_inner (setting key own) = false
is_inner (more depth text line) = true
is_inner skipped = true
is_inner bad = false

-- what a line adds to the setting above it
abbrev pub continued_text : ConfLine → List ℕ
continued_text (section name) = []
continued_text (setting key own) = []
continued_text (more depth text line) = 10 ∷ text
continued_text skipped = []
continued_text bad = []

-- its own value, and each continuation below it, joined by newlines
abbrev pub value_above : List ℕ → List ConfLine → List ℕ
value_above own lines = own ++ flat_map continued_text (take_while is_inner lines)

-- the settings of `[DEFAULT]` among the lines, in order, where the lines stand behind this section line
abbrev pub settings_from : Option (List ℕ) → List ConfLine → List Setting
settings_from last [] = []
settings_from last (section name ∷ lines) = settings_from (Some name) lines
settings_from last (setting key own ∷ lines) =
    if is_default last then record { key = key; value = value_above own lines } ∷ settings_from last lines
    else settings_from last lines
settings_from last (more depth text line ∷ lines) = settings_from last lines
settings_from last (skipped ∷ lines) = settings_from last lines
settings_from last (bad ∷ lines) = settings_from last lines

-- the settings of the section `DEFAULT`
abbrev pub settings_of : List ConfLine → List Setting
settings_of lines = settings_from None lines

-- The refusals.

-- a setting of this key is among them
abbrev pub has_key : List ℕ → List Setting → Bool
has_key key settings = list_any (λ s. bytes_eq s.key key) settings

-- one of the file's keys, a second time in `[DEFAULT]`
abbrev pub is_repeated : Dialect → List ℕ → List ConfLine → Bool
is_repeated dialect key before = is_default (section_of before) && is_some (named dialect key) && has_key key (settings_of before)

-- a value in `[DEFAULT]` that its key may not have, where the setting stands in this section
abbrev pub is_misfit : Dialect → List ℕ → List ℕ → Option (List ℕ) → Bool
is_misfit dialect key value last = is_default last && is_unfit (named dialect key) value

-- the fault that comes first
abbrev pub or_later : Option ConfFault → Option ConfFault → Option ConfFault
or_later None later = later
or_later (Some fault) later = Some fault

-- the fault, where there is reason for it
abbrev pub fault_if : Bool → ConfFault → Option ConfFault
fault_if reason fault = if reason then Some fault else None

-- why a line is refused between those before it and those below, with its number; lines are counted from 1
abbrev pub fault_of : Dialect → (before : List ConfLine) → ConfLine → (below : List ConfLine) → Option ConfFault
fault_of dialect before (section name) below = None
fault_of dialect before (setting key own) below =
    if is_none (section_of before) then Some (NoSection (length before + 1))
    else or_later (fault_if (is_repeated dialect key before) (Repeated (length before + 1)))
    (fault_if (is_misfit dialect key (value_above own below) (section_of before)) (BadLine (length before + 1)))
fault_of dialect before (more depth text line) below = None
fault_of dialect before skipped below = None
fault_of dialect before bad below = Some (BadLine (length before + 1))

-- why the first line that is refused is refused, behind those before it
abbrev pub first_fault : Dialect → (before : List ConfLine) → List ConfLine → Option ConfFault
first_fault dialect before [] = None
first_fault dialect before (line ∷ lines) = or_later (fault_of dialect before line lines) (first_fault dialect (before ++ line ∷ []) lines)

-- The configuration.

-- Of the optional keys, `None` is one that is not set. `folder` is the absolute path of the folder that the project stands
-- in; nothing where it is not known. `arguments` are the words that stand behind the command of each job that runs tests.
-- `instances` are those that the jobs of the lanes run on, in their order; none, where they run here.
pub record Settings : Type 0 where
  pub folder : List ℕ
  pub command : List ℕ
  pub id_option : Option (List ℕ)
  pub list_option : Option (List ℕ)
  pub id_list : Option (List ℕ)
  pub concurrency : Option (List ℕ)
  pub group_regex : Option (List ℕ)
  pub filter_tags : List (List ℕ)
  pub arguments : List (List ℕ)
  pub provision : Option (List ℕ)
  pub execute : Option (List ℕ)
  pub dispose : Option (List ℕ)
  pub instances : List (List ℕ)

-- the value of the first setting of this key
abbrev pub setting_value : List ℕ → List Setting → Option (List ℕ)
setting_value key settings = option_map (λ s. s.value) (find (λ s. bytes_eq s.key key) settings)

-- an empty value counts as none
abbrev pub unless_empty : Option (List ℕ) → Option (List ℕ)
unless_empty None = None
unless_empty (Some []) = None
unless_empty (Some (byte ∷ bytes)) = Some (byte ∷ bytes)

-- the value of this key, where it is set and not empty
abbrev pub set_of : List ℕ → List Setting → Option (List ℕ)
set_of key settings = unless_empty (setting_value key settings)

-- the words of a text that may not be there
abbrev pub words_in : Option (List ℕ) → List (List ℕ)
words_in None = []
words_in (Some text) = words_of text

-- the settings, where there is a command
abbrev pub with_command : Option (List ℕ) → List Setting → Result Settings ConfFault
with_command None settings = Err NoCommand
with_command (Some command) settings = Ok (record {
  folder = [];
  command = command;
  id_option = set_of (key_name IdOption) settings;
  list_option = set_of (key_name ListOption) settings;
  id_list = set_of (key_name IdList) settings;
  concurrency = set_of (key_name Concurrency) settings;
  group_regex = set_of (key_name GroupRegex) settings;
  filter_tags = words_in (set_of (key_name FilterTags) settings);
  arguments = [];
  provision = set_of (key_name Provision) settings;
  execute = set_of (key_name Execute) settings;
  dispose = set_of (key_name Dispose) settings;
  instances = [];
})

-- what was said, unless a line was refused
abbrev pub unless_refused : {T : Type 0} → Option ConfFault → Result T ConfFault → Result T ConfFault
unless_refused None said = said
unless_refused (Some fault) said = Err fault

-- The first line that is refused decides; where none is, `test_command` has to be set.
abbrev pub conf_of_lines : List ConfLine → Result Settings ConfFault
conf_of_lines lines =
    unless_refused (first_fault Testr [] lines) (with_command (set_of (key_name Command) (settings_of lines)) (settings_of lines))

-- what the configuration's text says
abbrev pub conf_of : List ℕ → Result Settings ConfFault
conf_of text = conf_of_lines (conf_lines text)

-- the same settings, of a project in the folder of this path
abbrev pub settings_in : List ℕ → Settings → Settings
settings_in folder settings = record settings { folder = folder }

-- what stands in place of a value: this one, where it is there and not empty
abbrev pub or_given : (given own : Option (List ℕ)) → Option (List ℕ)
or_given None own = own
or_given (Some []) own = own
or_given (Some (byte ∷ bytes)) own = Some (byte ∷ bytes)

-- the same settings, whose tests are grouped by this pattern, where it is there and not empty
abbrev pub grouped_by : Option (List ℕ) → Settings → Settings
grouped_by pattern settings = record settings { group_regex = or_given pattern settings.group_regex }

-- the same settings, with these words behind the command of each job that runs tests
abbrev pub with_arguments : List (List ℕ) → Settings → Settings
with_arguments arguments settings = record settings { arguments = arguments }

-- the same settings, whose jobs run on these instances
abbrev pub on_instances : List (List ℕ) → Settings → Settings
on_instances instances settings = record settings { instances = instances }

-- the project asks for instances
abbrev pub asks_instances : Settings → Bool
asks_instances settings = is_some settings.provision
