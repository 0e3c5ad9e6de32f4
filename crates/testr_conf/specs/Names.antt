-- The keys that are used, by their names (docs/FORMATS.md, "`.testr.conf`" and "`.stestr.conf` and `pyproject.toml`").
use Rattle.std.specs.Prelude.{ℕ, Bool, true, false, Option, List, [], ◌∷◌, codes}
use Rattle.std.specs.List.{find}
use Rattle.std.specs.Str.{bytes_eq}
use Rattle.testr_conf.specs.declared.name.Dialect.{Dialect}
use Rattle.testr_conf.specs.declared.name.Dialect.TheVariants.{Testr, Stestr}
use Rattle.testr_conf.specs.declared.name.Name.{Name}
use Rattle.testr_conf.specs.declared.name.Name.TheVariants.{Command, IdOption, ListOption, IdList, Concurrency, GroupRegex, FilterTags, Provision, Execute, Dispose, TestPath, TopDir, ParallelClass}

-- the key of a name, in small letters
abbrev pub key_name : Name → List ℕ
key_name Command = codes "test_command"
key_name IdOption = codes "test_id_option"
key_name ListOption = codes "test_list_option"
key_name IdList = codes "test_id_list_default"
key_name Concurrency = codes "test_run_concurrency"
key_name GroupRegex = codes "group_regex"
key_name FilterTags = codes "filter_tags"
key_name Provision = codes "instance_provision"
key_name Execute = codes "instance_execute"
key_name Dispose = codes "instance_dispose"
key_name TestPath = codes "test_path"
key_name TopDir = codes "top_dir"
key_name ParallelClass = codes "parallel_class"

-- the names whose keys a file of this dialect has
abbrev pub dialect_names : Dialect → List Name
dialect_names Testr = Command ∷ IdOption ∷ ListOption ∷ IdList ∷ Concurrency ∷ GroupRegex ∷ FilterTags ∷ Provision ∷ Execute ∷ Dispose ∷ []
dialect_names Stestr = TestPath ∷ TopDir ∷ GroupRegex ∷ ParallelClass ∷ []

-- the name whose key this is in a file of this dialect, if any
abbrev pub named : Dialect → List ℕ → Option Name
named dialect key = find (λ name. bytes_eq key (key_name name)) (dialect_names dialect)

-- a file of this dialect has the key of this name
abbrev pub has_name : Dialect → Name → Bool
has_name Testr TestPath = false
has_name Testr TopDir = false
has_name Testr ParallelClass = false
has_name Testr name = true
has_name Stestr TestPath = true
has_name Stestr TopDir = true
has_name Stestr GroupRegex = true
has_name Stestr ParallelClass = true
has_name Stestr name = false
