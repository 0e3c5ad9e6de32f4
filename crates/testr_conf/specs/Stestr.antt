-- What a `.stestr.conf` says (docs/FORMATS.md, "`.stestr.conf` and `pyproject.toml`").
use Rattle.std.specs.Prelude.{ℕ, Option, None, Some, Result, Ok, List, []}
use Rattle.testr_conf.specs.Lines.{conf_lines}
use Rattle.testr_conf.specs.Names.{key_name}
use Rattle.testr_conf.specs.Settings.{Setting, Settings, settings_of, first_fault, set_of, unless_refused}
use Rattle.testr_conf.specs.Values.{says_yes}
use Rattle.testr_conf.specs.declared.fault.ConfFault.{ConfFault}
use Rattle.testr_conf.specs.declared.name.Dialect.TheVariants.{Stestr}
use Rattle.testr_conf.specs.declared.name.Name.TheVariants.{GroupRegex, TestPath, TopDir, ParallelClass}
use Rattle.testr_conf.specs.declared.stestr.StestrValues.{StestrValues}

-- the values that the settings give to the keys of stestr; an empty one is none
abbrev pub stestr_values : List Setting → StestrValues
stestr_values settings = record {
  test_path = set_of (key_name TestPath) settings;
  top_dir = set_of (key_name TopDir) settings;
  group_regex = set_of (key_name GroupRegex) settings;
  parallel_class = says_yes (set_of (key_name ParallelClass) settings);
}

-- what the text says, unless a line is refused
abbrev pub stestr_of : List ℕ → Result StestrValues ConfFault
stestr_of text = unless_refused (first_fault Stestr [] (conf_lines text)) (Ok (stestr_values (settings_of (conf_lines text))))

-- the settings of a command with its options, and nothing else
abbrev pub command_settings : (command id_option list_option : List ℕ) → (group_regex : Option (List ℕ)) → Settings
command_settings command id_option list_option group_regex = record {
  folder = [];
  command = command;
  id_option = Some id_option;
  list_option = Some list_option;
  id_list = None;
  concurrency = None;
  group_regex = group_regex;
  filter_tags = [];
  arguments = [];
  provision = None;
  execute = None;
  dispose = None;
  instances = [];
}
