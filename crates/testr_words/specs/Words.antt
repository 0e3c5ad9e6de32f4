-- Which words are a command (docs/COMMANDS.md, "Words").
use Rattle.std.specs.Prelude.{Bool, true, false, not, ◌&&◌, ◌||◌, nat_le, nat_lt, nat_eq, ◌==◌, min, is_some, Option, Some, None, List, [], ◌∷◌, ℕ, length, codes, if◌then◌else◌, ◌+◌, take, drop}
use Rattle.std.specs.Char.{is_ascii_digit}
use Rattle.std.specs.Fmt.{decimal}
use Rattle.std.specs.List.{list_all, flat_map, fold, before_first, after_first, position_or_len}
use Rattle.std.specs.Option.{option_map}
use Rattle.std.specs.Str.{bytes_eq}
use Rattle.std.specs.Str.Parse.{digits_value}
use Rattle.command_words.specs.declared.table.Kind.{Kind}
use Rattle.command_words.specs.declared.table.Kind.TheVariants.{Flag, Valued}
use Rattle.command_words.specs.Items.{Item, flag, valued, name, is_text, has_flag, items_of, values_in, name_of}
use Rattle.sub_number.specs.Quotes.{is_path}
use Rattle.testr_words.specs.declared.values.TheConstants.{MOST_WORKERS}
use Rattle.testr_words.specs.declared.command.Verb.{Verb}
use Rattle.testr_words.specs.declared.command.Verb.TheVariants.{Init, Load, Run, Last, Failing, Slowest, Stats, ListTests, SelfTest, Upgrade}
use Rattle.testr_words.specs.declared.command.Command.{Command}
use Rattle.testr_words.specs.declared.command.ProjectWords.{ProjectWords}
use Rattle.testr_words.specs.declared.command.Face.{Face}
use Rattle.testr_words.specs.declared.command.Face.TheVariants.{Testr, Stestr}
use Rattle.testr_words.specs.Drawings.{if_few}
use Rattle.testr_words.specs.Letters.{long_words, has_value}
use Rattle.testr_words.specs.Formats.{format_word, format_in}
use Rattle.testr_words.specs.declared.format.FormatKind.{FormatKind}
use Rattle.testr_words.specs.declared.format.FormatKind.TheVariants.{Plain}
use Rattle.testr_words.specs.Lives.{live_word, live_in}
use Rattle.testr_words.specs.declared.live_kind.LiveKind.{LiveKind}
use Rattle.testr_words.specs.declared.live_kind.LiveKind.TheVariants.{Nothing}
use Rattle.testr_words.specs.Shards.{NumberedShard, part_of, slash}
use Rattle.testr_words.specs.declared.shard.TheConstants.{MOST_SHARDS}
use Rattle.testr_words.specs.declared.selftest_words.SelfTestWords.{SelfTestWords}
use Rattle.testr_words.specs.Tasks.{Task, task_of, forces, hides, warns, live_of, streams, expects}

-- the first word of each face
abbrev pub face_word : Face → List ℕ
face_word Testr = codes "testr"
face_word Stestr = codes "stestr"

-- the face that the word names
abbrev pub face_of : List ℕ → Option Face
face_of word = if bytes_eq word (codes "testr") then Some Testr else (if bytes_eq word (codes "stestr") then Some Stestr else None)

-- the face that the first word names
abbrev pub face_in : List (List ℕ) → Option Face
face_in [] = None
face_in (word ∷ words) = face_of word

-- the second answer is made of the first, where that is there
abbrev pub and_then : {A B : Type 0} → Option A → (A → Option B) → Option B
and_then None next = None
and_then (Some value) next = next value

-- ---- the options and names of each verb

-- the option that tells the number of workers
abbrev pub concurrency_word : List ℕ
concurrency_word = codes "--concurrency"

-- the option that names a load list
abbrev pub load_list_word : List ℕ
load_list_word = codes "--load-list"

-- the option that names a list of the ids of which a run is expected to tell
abbrev pub expect_word : List ℕ
expect_word = codes "--expect"

-- the option whose value is a pattern of the ids that are left out
abbrev pub exclude_word : List ℕ
exclude_word = codes "--exclude-regex"

-- the option that names a file of such patterns
abbrev pub exclude_list_word : List ℕ
exclude_list_word = codes "--exclude-list"

-- the option that names a file of patterns of the ids that are wanted
abbrev pub include_list_word : List ℕ
include_list_word = codes "--include-list"

-- the option that stands before the key `test_path`
abbrev pub test_path_word : List ℕ
test_path_word = codes "--test-path"

-- the option that stands before the key `top_dir`
abbrev pub top_dir_word : List ℕ
top_dir_word = codes "--top-dir"

-- the option that stands before the key `group_regex`
abbrev pub group_regex_word : List ℕ
group_regex_word = codes "--group-regex"

-- the option that tells which shard of the tests is wanted
abbrev pub shard_word : List ℕ
shard_word = codes "--shard"

-- the option that names the file of the times that shards go by
abbrev pub times_word : List ℕ
times_word = codes "--times"

-- the word that ends the options of a run
abbrev pub end_word : List ℕ
end_word = codes "--"

-- the verb that a word is
abbrev pub verb_of : List ℕ → Option Verb
verb_of word =
    if bytes_eq word (codes "init") then Some Init
    else (if bytes_eq word (codes "load") then Some Load
    else (if bytes_eq word (codes "run") then Some Run
    else (if bytes_eq word (codes "last") then Some Last
    else (if bytes_eq word (codes "failing") then Some Failing
    else (if bytes_eq word (codes "slowest") then Some Slowest
    else (if bytes_eq word (codes "stats") then Some Stats
    else (if bytes_eq word (codes "list-tests") then Some ListTests
    else (if bytes_eq word (codes "selftest") then Some SelfTest
    else (if bytes_eq word (codes "upgrade") then Some Upgrade
    else None)))))))))

-- the verb that a word is to this face
abbrev pub verb_by : Face → List ℕ → Option Verb
verb_by Testr word = verb_of word
verb_by Stestr word = if bytes_eq word (codes "list") then Some ListTests else verb_of word

-- this option is a flag, and there is no other
abbrev pub only_flag : List ℕ → List ℕ → Option Kind
only_flag key word = if bytes_eq word key then Some Flag else None

-- A flag that is taken and does nothing is one whatever this says; any other option is what this says.
abbrev pub idle_or : List ℕ → Option Kind → Option Kind
idle_or word kind = if bytes_eq word (codes "--full-results") || bytes_eq word (codes "--no-subunit-trace") then Some Flag else kind

-- A flag that leaves out the report is one whatever this says; any other option is what this says.
abbrev pub quiet_or : List ℕ → Option Kind → Option Kind
quiet_or word kind = if bytes_eq word (codes "--quiet") then Some Flag else kind

-- the options of `load`
abbrev pub load_kind : List ℕ → Option Kind
load_kind word =
    if bytes_eq word (codes "--partial") || (bytes_eq word (codes "--force-init") || bytes_eq word (codes "--subunit")) then Some Flag
    else (if bytes_eq word live_word || (bytes_eq word format_word || bytes_eq word expect_word) then Some Valued
    else None)

-- the flags of `run`
abbrev pub is_run_flag : List ℕ → Bool
is_run_flag word = bytes_eq word (codes "--partial") || (bytes_eq word (codes "--failing") || (bytes_eq word (codes "--parallel") || (bytes_eq word (codes "--find-causes") || (bytes_eq word (codes "--force-init") || bytes_eq word (codes "--subunit")))))

-- the flag of `run` that this face alone has
abbrev pub is_face_flag : Face → List ℕ → Bool
is_face_flag Testr word = false
is_face_flag Stestr word = bytes_eq word (codes "--serial")

-- the options that choose tests by patterns or a shard, or name the times that the shard goes by
abbrev pub choosing_kind : List ℕ → Option Kind
choosing_kind word = if bytes_eq word exclude_word || (bytes_eq word exclude_list_word || (bytes_eq word include_list_word || (bytes_eq word shard_word || bytes_eq word times_word))) then Some Valued else None

-- the options of `list-tests`
abbrev pub list_kind : List ℕ → Option Kind
list_kind word = if bytes_eq word test_path_word || bytes_eq word top_dir_word then Some Valued else choosing_kind word

-- the options of `run` with a value
abbrev pub is_run_option : List ℕ → Bool
is_run_option word = bytes_eq word concurrency_word || (bytes_eq word load_list_word || (bytes_eq word group_regex_word || (bytes_eq word live_word || bytes_eq word format_word)))

-- the options of `run`
abbrev pub run_kind : Face → List ℕ → Option Kind
run_kind face word =
    if is_run_flag word || is_face_flag face word then Some Flag
    else (if is_run_option word then Some Valued
    else list_kind word)

-- the options of `last`
abbrev pub last_kind : List ℕ → Option Kind
last_kind word =
    if bytes_eq word (codes "--subunit") || bytes_eq word (codes "--skips") then Some Flag
    else (if bytes_eq word format_word then Some Valued
    else None)

-- the options of `failing`
abbrev pub failing_kind : List ℕ → Option Kind
failing_kind word = if bytes_eq word (codes "--list") || (bytes_eq word (codes "--full") || bytes_eq word (codes "--subunit")) then Some Flag else None

-- which options a verb has
abbrev pub option_kinds : Face → Verb → List ℕ → Option Kind
option_kinds face Load word = quiet_or word (idle_or word (load_kind word))
option_kinds face Run word = quiet_or word (idle_or word (run_kind face word))
option_kinds face Last word = quiet_or word (idle_or word (last_kind word))
option_kinds face Failing word = failing_kind word
option_kinds face Slowest word = only_flag (codes "--all") word
option_kinds face ListTests word = list_kind word
option_kinds face other word = None

-- How many names there may be; none where there is no end to them. Those of `selftest` are numbers.
abbrev pub most_names : Verb → Option ℕ
most_names Load = Some 64
most_names Run = None
most_names ListTests = None
most_names other = Some 0

-- so many names are not more than the most, where there is a most
abbrev pub may_have : Option ℕ → ℕ → Bool
may_have None names = true
may_have (Some most) names = nat_le names most

-- ---- what the items say

-- the name that the item is, or none
abbrev pub names_of : Item → List (List ℕ)
names_of (flag word) = []
names_of (valued word value) = []
names_of (name word) = word ∷ []

-- the names among the items, in their order
abbrev pub names_in : List Item → List (List ℕ)
names_in items = flat_map names_of items

-- these names, where each is a text
abbrev pub if_texts : List (List ℕ) → Option (List (List ℕ))
if_texts names = if list_all is_text names then Some names else None

-- ---- what the options with a value say

-- the last of the values, or what stood before them
abbrev pub last_value_behind : Option (List ℕ) → List (List ℕ) → Option (List ℕ)
last_value_behind before values = fold (λ stood value. Some value) before values

-- the last of the values, where there is one
abbrev pub last_of : List (List ℕ) → Option (List ℕ)
last_of values = last_value_behind None values

-- The value is the decimal of a number up to this.
abbrev pub is_number : (most : ℕ) → List ℕ → Bool
is_number most value = bytes_eq value (decimal (digits_value 10 value)) && nat_le (digits_value 10 value) most

-- that number
abbrev pub number_up_to : (most : ℕ) → List ℕ → Option ℕ
number_up_to most value = if is_number most value then Some (digits_value 10 value) else None

-- The value is a number in decimal, of any length, without a sign and without leading zeros: digits, and the first is 0 only
-- where it stands alone.
abbrev pub is_decimal : List ℕ → Bool
is_decimal [] = false
is_decimal (first ∷ rest) = list_all is_ascii_digit (first ∷ rest) && (not (first == 48) || nat_eq (length rest) 0)

-- the number of workers that the value asks for: no more than a run may have
abbrev pub worker_count : List ℕ → Option ℕ
worker_count value = if is_decimal value then Some (min (digits_value 10 value) MOST_WORKERS) else None

-- the number that the last value tells, or 0 where there is none
abbrev pub count_or_zero : Option (List ℕ) → Option ℕ
count_or_zero None = Some 0
count_or_zero (Some value) = worker_count value

-- how many workers are asked for, where each value that tells it is a number
abbrev pub workers_in : List Item → Option ℕ
workers_in items = if list_all is_decimal (values_in concurrency_word items) then count_or_zero (last_of (values_in concurrency_word items)) else None

-- the value asks for more workers than a run may have
abbrev pub is_too_many : List ℕ → Bool
is_too_many value = is_decimal value && nat_lt MOST_WORKERS (digits_value 10 value)

-- so does this value, where there is one
abbrev pub are_too_many : Option (List ℕ) → Bool
are_too_many None = false
are_too_many (Some value) = is_too_many value

-- so does the last value that tells how many workers are asked for
abbrev pub too_many_in : List Item → Bool
too_many_in items = are_too_many (last_of (values_in concurrency_word items))

-- the shard that its number and the count of all tell
abbrev pub shard_between : (number count : List ℕ) → Option NumberedShard
shard_between number count =
    and_then (number_up_to MOST_SHARDS number) (λ number.
    and_then (number_up_to MOST_SHARDS count) (λ count.
    part_of number count))

-- the shard that the value tells: a number, a slash, and how many there are
abbrev pub shard_of : List ℕ → Option NumberedShard
shard_of value = if nat_lt (position_or_len slash value) (length value) then shard_between (before_first slash value) (after_first slash value) else None

-- the value tells one
abbrev pub is_shard : List ℕ → Bool
is_shard value = is_some (shard_of value)

-- the shard that is wanted, where each value that tells one does so; of several the last one stands
abbrev pub shard_in : List Item → Option (Option NumberedShard)
shard_in items = if list_all is_shard (values_in shard_word items) then Some (and_then (last_of (values_in shard_word items)) shard_of) else None

-- a name that may be missing, where it is a text
abbrev pub if_text : Option (List ℕ) → Option (Option (List ℕ))
if_text None = Some None
if_text (Some word) = if is_text word then Some (Some word) else None

-- the file that this option names; of several the last one stands
abbrev pub file_in : List ℕ → List Item → Option (Option (List ℕ))
file_in key items = if_text (last_of (values_in key items))

-- the values of this option, where each is a text
abbrev pub texts_in : List ℕ → List Item → Option (List (List ℕ))
texts_in key items = if_texts (values_in key items)

-- ---- what is said of the project

-- the path that this option gives, where each of its values is one; of several the last one stands
abbrev pub path_given : List ℕ → List Item → Option (Option (List ℕ))
path_given key items = if list_all is_path (values_in key items) then file_in key items else None

-- what the options say of the project, and the words behind them
abbrev pub project_in : List Item → (arguments : List (List ℕ)) → Option ProjectWords
project_in items arguments =
    and_then (path_given test_path_word items) (λ test_path.
    and_then (path_given top_dir_word items) (λ top_dir.
    and_then (file_in group_regex_word items) (λ group_regex.
    and_then (if_texts arguments) (λ arguments.
    Some (record { test_path = test_path; top_dir = top_dir; group_regex = group_regex; arguments = arguments; instances = None })))))

-- nothing is said of it
abbrev pub no_project_words : ProjectWords
no_project_words = record { test_path = None; top_dir = None; group_regex = None; arguments = []; instances = None }

-- the command, which says this of the project
abbrev pub with_project : ProjectWords → Command → Command
with_project project command = record command { project = project }

-- ---- the words behind the options of a run

-- How many words stand in front of the first `--` that is no option's value. The first word is one where it is asked for.
abbrev pub before_end : Face → (asked : Bool) → List (List ℕ) → ℕ
before_end face asked [] = 0
before_end face asked (word ∷ words) =
    if not asked && bytes_eq word end_word then 0
    else before_end face (not asked && has_value (run_kind face word)) words + 1

-- the words that are options and names; only a run has an end to them
abbrev pub options_in : Face → Verb → List (List ℕ) → List (List ℕ)
options_in face Run words = take (before_end face false words) words
options_in face verb words = words

-- the words behind that end
abbrev pub arguments_in : Face → Verb → List (List ℕ) → List (List ℕ)
arguments_in face Run words = drop (before_end face false words + 1) words
arguments_in face verb words = []

-- ---- what the names of `selftest` say

-- the drawing of a seed, of nine digits at most, a number of lanes and a number of tests
abbrev pub drawing_of_names : (seed lanes tests : List ℕ) → Option SelfTestWords
drawing_of_names seed lanes tests =
    and_then (number_up_to 999999999 seed) (λ seed.
    and_then (number_up_to 64 lanes) (λ lanes.
    and_then (number_up_to 1000000 tests) (λ tests.
    if_few (record { seed = seed; lanes = lanes; tests = tests }))))

-- the three items are the names of a seed, lanes and tests
abbrev pub drawing_in : List Item → Option SelfTestWords
drawing_in (seed ∷ lanes ∷ tests ∷ []) =
    and_then (name_of seed) (λ seed.
    and_then (name_of lanes) (λ lanes.
    and_then (name_of tests) (λ tests.
    drawing_of_names seed lanes tests)))
drawing_in items = None

-- the command of a drawing, which has no names of its own
abbrev pub command_of_drawing : Face → SelfTestWords → Command
command_of_drawing face drawing = record {
  face = face;
  verb = SelfTest;
  partial = false;
  force_init = false;
  failing = false;
  parallel = false;
  find_causes = false;
  concurrency = 0;
  too_many = false;
  load_list = None;
  expect = None;
  list = false;
  full = false;
  all = false;
  subunit = false;
  live = Nothing;
  skips = false;
  format = Plain;
  no_report = false;
  names = [];
  excluded = [];
  include_list = None;
  exclude_list = None;
  shard = None;
  times = None;
  project = no_project_words;
  seed = drawing.seed;
  lanes = drawing.lanes;
  tests = drawing.tests;
}

-- ---- the command of options and names

-- several workers are asked for: to `stestr` by default
abbrev pub parallel_by : Face → Verb → List Item → Bool
parallel_by Stestr Run items = not (has_flag (codes "--serial") items)
parallel_by face verb items = has_flag (codes "--parallel") items

-- a repository is made first, where there is none: by `stestr` always, of what keeps a run
abbrev pub made_first_by : Face → Verb → List Item → Bool
made_first_by Stestr Load items = true
made_first_by Stestr Run items = true
made_first_by face verb items = has_flag (codes "--force-init") items

-- a file of times is named for a shard alone
abbrev pub may_time : (shard : Option NumberedShard) → (times : Option (List ℕ)) → Bool
may_time shard times = is_some shard || not (is_some times)

-- The command of these items, names, workers, load list, list of what is expected, patterns, files of patterns, shard, file of times, lines and format,
-- where the names are no more than the verb has, and the file has a shard.
abbrev pub command_with : Face → Verb → List Item → (names : List (List ℕ)) → (workers : ℕ) → (load_list expect : Option (List ℕ)) → (excluded : List (List ℕ)) → (include_list exclude_list : Option (List ℕ)) → (shard : Option NumberedShard) → (times : Option (List ℕ)) → (live : LiveKind) → (format : FormatKind) → Option Command
command_with face verb items names workers load_list expect excluded include_list exclude_list shard times live format = if may_have (most_names verb) (length names) && may_time shard times then Some (record {
  face = face;
  verb = verb;
  partial = has_flag (codes "--partial") items;
  force_init = made_first_by face verb items;
  failing = has_flag (codes "--failing") items;
  parallel = parallel_by face verb items;
  find_causes = has_flag (codes "--find-causes") items;
  concurrency = workers;
  too_many = too_many_in items;
  load_list = load_list;
  expect = expect;
  list = has_flag (codes "--list") items;
  full = has_flag (codes "--full") items;
  all = has_flag (codes "--all") items;
  subunit = has_flag (codes "--subunit") items;
  live = live;
  skips = has_flag (codes "--skips") items;
  format = format;
  no_report = has_flag (codes "--quiet") items;
  names = names;
  excluded = excluded;
  include_list = include_list;
  exclude_list = exclude_list;
  shard = shard;
  times = times;
  project = no_project_words;
  seed = 0;
  lanes = 0;
  tests = 0;
}) else None

-- a command whose names are files or patterns
abbrev pub command_of_names : Face → Verb → List Item → Option Command
command_of_names face verb items =
    and_then (if_texts (names_in items)) (λ names.
    and_then (workers_in items) (λ workers.
    and_then (file_in load_list_word items) (λ load_list.
    and_then (file_in expect_word items) (λ expect.
    and_then (texts_in exclude_word items) (λ excluded.
    and_then (file_in include_list_word items) (λ include_list.
    and_then (file_in exclude_list_word items) (λ exclude_list.
    and_then (shard_in items) (λ shard.
    and_then (file_in times_word items) (λ times.
    and_then (live_in items) (λ live.
    and_then (format_in items) (λ format.
    command_with face verb items names workers load_list expect excluded include_list exclude_list shard times live format)))))))))))

-- the command of this verb that the items ask for
abbrev pub command_of_items : Face → Verb → List Item → Option Command
command_of_items face SelfTest items = option_map (command_of_drawing face) (drawing_in items)
command_of_items face other items = command_of_names face other items

-- ---- which command words are

-- the command of this verb that the options and names ask for, with these words behind them
abbrev pub command_behind : Face → Verb → (options arguments : List (List ℕ)) → Option Command
command_behind face verb options arguments =
    and_then (items_of (option_kinds face verb) (long_words (option_kinds face verb) options)) (λ items.
    and_then (project_in items arguments) (λ project.
    option_map (with_project project) (command_of_items face verb items)))

-- the command of this verb that the words ask for
abbrev pub command_of_verb : Face → List (List ℕ) → Verb → Option Command
command_of_verb face words verb = command_behind face verb (options_in face verb words) (arguments_in face verb words)

-- the command that the words behind the name of this face are
abbrev pub command_of : Face → List (List ℕ) → Option Command
command_of face [] = None
command_of face (word ∷ words) = and_then (verb_by face word) (command_of_verb face words)

-- what is done for them, for a project in the folder of this path
abbrev pub asked_by : List ℕ → Face → List (List ℕ) → Option Task
asked_by folder face words = and_then (command_of face words) (task_of folder)

-- whether a repository is made first for the command, where there is one
abbrev pub forces_first : List ℕ → Option Command → Bool
forces_first folder None = false
forces_first folder (Some command) = forces folder command

-- whether a repository is made first for the words
abbrev pub forced_by : List ℕ → Face → List (List ℕ) → Bool
forced_by folder face words = forces_first folder (command_of face words)

-- whether the command, where there is one, prints no report
abbrev pub hides_then : List ℕ → Option Command → Bool
hides_then folder None = false
hides_then folder (Some command) = hides folder command

-- whether no report is printed for the words
abbrev pub hidden_by : List ℕ → Face → List (List ℕ) → Bool
hidden_by folder face words = hides_then folder (command_of face words)

-- which lines are told of the tests for the command, where there is one, while the run goes on
abbrev pub live_then : List ℕ → Option Command → LiveKind
live_then folder None = Nothing
live_then folder (Some command) = live_of folder command

-- which lines are told for the words
abbrev pub live_by : List ℕ → Face → List (List ℕ) → LiveKind
live_by folder face words = live_then folder (command_of face words)

-- whether the packets are printed of the run of the command, where there is one
abbrev pub streams_then : List ℕ → Option Command → Bool
streams_then folder None = false
streams_then folder (Some command) = streams folder command

-- whether the packets are printed of the run of the words
abbrev pub streamed_by : List ℕ → Face → List (List ℕ) → Bool
streamed_by folder face words = streams_then folder (command_of face words)

-- which file has the ids of which the run is expected to tell, for the command, where there is one
abbrev pub expects_then : List ℕ → Option Command → Option (List ℕ)
expects_then folder None = None
expects_then folder (Some command) = expects folder command

-- which file has them for the words
abbrev pub expected_by : List ℕ → Face → List (List ℕ) → Option (List ℕ)
expected_by folder face words = expects_then folder (command_of face words)

-- whether a line is told for the command, where there is one, before anything is done
abbrev pub warns_then : List ℕ → Option Command → Bool
warns_then folder None = false
warns_then folder (Some command) = warns folder command

-- whether a line is told for the words, before anything is done
abbrev pub warned_by : List ℕ → Face → List (List ℕ) → Bool
warned_by folder face words = warns_then folder (command_of face words)
