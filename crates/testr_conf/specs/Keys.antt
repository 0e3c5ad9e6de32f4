-- The values found for the keys that are used.
use Rattle.std.specs.Prelude.{ℕ, Option, Some, None, List, if◌then◌else◌}
use Rattle.testr_conf.specs.Names.{key_name, has_name}
use Rattle.testr_conf.specs.Settings.{Setting, setting_value}
use Rattle.testr_conf.specs.declared.name.Dialect.{Dialect}
use Rattle.testr_conf.specs.declared.name.Name.{Name}
use Rattle.testr_conf.specs.declared.name.Name.TheVariants.{Command, IdOption, ListOption, IdList, Concurrency, GroupRegex, FilterTags, Provision, Execute, Dispose, TestPath, TopDir, ParallelClass}
use Rattle.testr_conf.specs.declared.found_values.Found.{Found}

-- the value that was found under a name
abbrev pub found_value : Name → Found → Option (List ℕ)
found_value Command found = found.command
found_value IdOption found = found.id_option
found_value ListOption found = found.list_option
found_value IdList found = found.id_list
found_value Concurrency found = found.concurrency
found_value GroupRegex found = found.group_regex
found_value FilterTags found = found.filter_tags
found_value Provision found = found.provision
found_value Execute found = found.execute
found_value Dispose found = found.dispose
found_value TestPath found = found.test_path
found_value TopDir found = found.top_dir
found_value ParallelClass found = found.parallel_class

-- what was found, and this value under a name
abbrev pub with_value : Name → List ℕ → Found → Found
with_value Command value found = record found { command = Some value }
with_value IdOption value found = record found { id_option = Some value }
with_value ListOption value found = record found { list_option = Some value }
with_value IdList value found = record found { id_list = Some value }
with_value Concurrency value found = record found { concurrency = Some value }
with_value GroupRegex value found = record found { group_regex = Some value }
with_value FilterTags value found = record found { filter_tags = Some value }
with_value Provision value found = record found { provision = Some value }
with_value Execute value found = record found { execute = Some value }
with_value Dispose value found = record found { dispose = Some value }
with_value TestPath value found = record found { test_path = Some value }
with_value TopDir value found = record found { top_dir = Some value }
with_value ParallelClass value found = record found { parallel_class = Some value }

-- the value that the settings give to the key of this name, where a file of this dialect has it
abbrev pub value_in : Dialect → Name → List Setting → Option (List ℕ)
value_in dialect name settings = if has_name dialect name then setting_value (key_name name) settings else None

-- the values that the settings give
abbrev pub found_of : Dialect → List Setting → Found
found_of dialect settings = record {
  command = value_in dialect Command settings;
  id_option = value_in dialect IdOption settings;
  list_option = value_in dialect ListOption settings;
  id_list = value_in dialect IdList settings;
  concurrency = value_in dialect Concurrency settings;
  group_regex = value_in dialect GroupRegex settings;
  filter_tags = value_in dialect FilterTags settings;
  provision = value_in dialect Provision settings;
  execute = value_in dialect Execute settings;
  dispose = value_in dialect Dispose settings;
  test_path = value_in dialect TestPath settings;
  top_dir = value_in dialect TopDir settings;
  parallel_class = value_in dialect ParallelClass settings;
}
