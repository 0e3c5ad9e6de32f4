-- What `load`, `run` and `list-tests` ask for.
use Rattle.std.specs.Prelude.{Bool, true, not, ◌||◌, nat_eq, Option, Some, List, ℕ, length, is_some}
use Rattle.testr_words.specs.declared.command.Command.{Command}
use Rattle.testr_words.specs.declared.command.Face.{Face}
use Rattle.testr_words.specs.declared.format.FormatKind.{FormatKind}
use Rattle.testr_words.specs.Shards.{NumberedShard}
use Rattle.testr_words.specs.declared.command.ProjectWords.{ProjectWords}

-- which tests are wanted, by patterns and a shard
pub record Wanted : Type 0 where
  -- the patterns of the ids that are wanted, in their order
  pub patterns : List (List ℕ)
  -- the patterns of the ids that are left out, in their order
  pub excluded : List (List ℕ)
  -- the file of further patterns of the ids that are wanted
  pub include_list : Option (List ℕ)
  -- the file of further patterns of the ids that are left out
  pub exclude_list : Option (List ℕ)
  -- the shard of those that are wanted
  pub shard : Option NumberedShard
  -- the file of the times that the shard goes by
  pub times : Option (List ℕ)

-- something is said of it
abbrev pub is_choosing : Wanted → Bool
is_choosing wanted = not (nat_eq (length wanted.patterns) 0) || (not (nat_eq (length wanted.excluded) 0) || (is_some wanted.include_list || (is_some wanted.exclude_list || is_some wanted.shard)))

-- what is said of it by the command
abbrev pub wanted_of : Command → Wanted
wanted_of command = record {
  patterns = command.names;
  excluded = command.excluded;
  include_list = command.include_list;
  exclude_list = command.exclude_list;
  shard = command.shard;
  times = command.times;
}

-- the project whose tests are run, and what is said of it
pub record Project : Type 0 where
  -- the absolute path of its folder; empty where it is not known
  pub folder : List ℕ
  -- by which name the program was called
  pub face : Face
  -- what stands in place of the configuration's values, and behind its commands; and the instances that its jobs run on
  pub words : ProjectWords

-- the project in the folder of this path, of which the command says something
abbrev pub project_of : List ℕ → Command → Project
project_of folder command = record { folder = folder; face = command.face; words = command.project }

-- the same command over the project on these instances, as if its words said so many workers
abbrev pub on_these : (workers : ℕ) → (instances : List (List ℕ)) → Command → Command
on_these workers instances command = record command { parallel = true; concurrency = workers; project = record command.project { instances = Some instances } }

-- what `load` is asked to do, but for its names
pub record LoadOptions : Type 0 where
  -- the run is called partial
  pub partial : Bool
  -- for whom the report is printed
  pub format : FormatKind

-- what `list-tests` is asked to do
pub record ListOptions : Type 0 where
  -- whose tests are listed
  pub project : Project
  -- by which name the program was called
  pub face : Face
  -- which tests are wanted
  pub wanted : Wanted

-- what `run` is asked to do
pub record RunOptions : Type 0 where
  -- whose tests are run
  pub project : Project
  -- by which name the program was called
  pub face : Face
  -- the run is called partial
  pub partial : Bool
  -- for whom the report is printed
  pub format : FormatKind
  -- only the tests that fail are wanted
  pub failing : Bool
  -- the tests run side by side
  pub parallel : Bool
  -- the tests that make others fail are looked for
  pub find_causes : Bool
  -- on how many workers; 0 where it is not said
  pub concurrency : ℕ
  -- the file of the ids that are wanted
  pub load_list : Option (List ℕ)
  -- which tests are wanted, by patterns and a shard
  pub wanted : Wanted

-- A run is partial exactly where it is called so, or its tests are chosen: by the failing set, a load list, a pattern, a file
-- of patterns or a shard.
abbrev pub runs_in_part : (called failing : Bool) → (load_list : Option (List ℕ)) → Wanted → Bool
runs_in_part called failing load_list wanted = called || (failing || (is_some load_list || is_choosing wanted))

-- the run that is asked for is partial
abbrev pub is_partial : RunOptions → Bool
is_partial options = runs_in_part options.partial options.failing options.load_list options.wanted

-- what is said of a load by the command
abbrev pub load_options : Command → LoadOptions
load_options command = record { partial = command.partial; format = command.format }

-- what is said of a listing by the command, in the folder of this path
abbrev pub list_options : List ℕ → Command → ListOptions
list_options folder command = record { project = project_of folder command; face = command.face; wanted = wanted_of command }

-- What is said of a run by the command, in the folder of this path. Only the reading of the configuration asks for the project,
-- so the steps behind it name none.
abbrev pub run_options : List ℕ → Command → RunOptions
run_options folder command = record {
  project = project_of folder command;
  face = command.face;
  partial = command.partial;
  format = command.format;
  failing = command.failing;
  parallel = command.parallel;
  find_causes = command.find_causes;
  concurrency = command.concurrency;
  load_list = command.load_list;
  wanted = wanted_of command;
}
