-- The settings that the values of stestr stand for (docs/FORMATS.md, "`.stestr.conf` and `pyproject.toml`").
use Rattle.std.specs.Prelude.{ℕ, Bool, true, false, Option, None, Some, Result, Ok, Err, List, ◌++◌, codes}
use Rattle.std.specs.Option.{unwrap_or}
use Rattle.testr_conf.specs.Settings.{Settings, or_given}
use Rattle.testr_conf.specs.Stestr.{command_settings}
use Rattle.testr_conf.specs.declared.stestr.StestrValues.{StestrValues}
use Rattle.stestr_conf.specs.declared.settled_values.SettleFault.{SettleFault}
use Rattle.stestr_conf.specs.declared.settled_values.SettleFault.TheVariants.{NoTestPath}

-- the pattern that groups the tests of each class
abbrev pub class_regex : List ℕ
class_regex = codes "([^\\.]*\\.)*"

-- the pattern by which the tests are grouped, where one is set
abbrev pub grouping : (parallel_class : Bool) → (group_regex : Option (List ℕ)) → Option (List ℕ)
grouping true group_regex = Some class_regex
grouping false group_regex = group_regex

-- the command that runs the tests of this path, where modules are named from this folder on
abbrev pub stestr_command : (top_dir test_path : List ℕ) → List ℕ
stestr_command top_dir test_path =
    codes "${PYTHON:-python3} -m stestr.subunit_runner.run discover -t \"" ++ top_dir ++ codes "\" \"" ++ test_path ++ codes "\" $LISTOPT $IDOPTION"

-- the settings of that command
abbrev pub stestr_settings : (top_dir test_path : List ℕ) → (group_regex : Option (List ℕ)) → Settings
stestr_settings top_dir test_path group_regex =
    command_settings (stestr_command top_dir test_path) (codes "--load-list $IDFILE") (codes "--list") group_regex

-- the same, where there is a path
abbrev pub settled_at : (top_dir test_path : Option (List ℕ)) → (group_regex : Option (List ℕ)) → Result Settings SettleFault
settled_at top_dir None group_regex = Err NoTestPath
settled_at top_dir (Some test_path) group_regex = Ok (stestr_settings (unwrap_or top_dir (codes "./")) test_path group_regex)

-- the settings of the values, in place of which these stand, where they are there and not empty
abbrev pub settled_values : (test_path top_dir : Option (List ℕ)) → StestrValues → Result Settings SettleFault
settled_values test_path top_dir values =
    settled_at (or_given top_dir values.top_dir) (or_given test_path values.test_path) (grouping values.parallel_class values.group_regex)
