-- What the refusals of the steps of `run` and `list-tests` say, and their statuses (docs/COMMANDS.md, "Refusals").
use Rattle.std.specs.Prelude.{ℕ, Bool, false, ◌||◌, nat_eq, List, [], ◌∷◌, ◌++◌, codes, if◌then◌else◌}
use Rattle.std.specs.Fmt.{decimal, signed_decimal}
use Rattle.std.specs.List.{starts_with}
use Rattle.suite_causes.specs.declared.cause_search.SearchFault.{SearchFault}
use Rattle.suite_causes.specs.declared.cause_search.SearchFault.TheVariants as search_fault
use Rattle.suite_plan.specs.declared.count_command.CallRefusal.{CallRefusal}
use Rattle.suite_plan.specs.declared.count_command.CallRefusal.TheVariants as call
use Rattle.stestr_conf.specs.declared.table.TableKey.{TableKey}
use Rattle.stestr_conf.specs.declared.table.TableKey.TheVariants as table_key
use Rattle.suite_plan.specs.declared.conf_file.BadConf.{BadConf}
use Rattle.suite_plan.specs.declared.conf_file.BadConf.TheVariants as bad
use Rattle.suite_plan.specs.declared.conf_file.ConfFile.{ConfFile}
use Rattle.suite_plan.specs.declared.conf_file.ConfFile.TheVariants as file
use Rattle.suite_plan.specs.declared.conf_file.ConfRefusal.{ConfRefusal}
use Rattle.suite_plan.specs.declared.conf_file.ConfRefusal.TheVariants as conf
use Rattle.suite_plan.specs.declared.test_listing.ListingRefusal.{ListingRefusal}
use Rattle.suite_plan.specs.declared.test_listing.ListingRefusal.TheVariants as listing
use Rattle.suite_plan.specs.declared.load_list.ListRefusal.{ListRefusal}
use Rattle.suite_plan.specs.declared.load_list.ListRefusal.TheVariants as load_list
use Rattle.suite_plan.specs.declared.pattern_list.BadLine.{BadLine}
use Rattle.suite_plan.specs.declared.patterns.PatternRefusal.{PatternRefusal}
use Rattle.suite_plan.specs.declared.patterns.PatternRefusal.TheVariants as pattern
use Rattle.suite_plan.specs.declared.processors.TableRefusal.{TableRefusal}
use Rattle.suite_plan.specs.declared.processors.TableRefusal.TheVariants as table
use Rattle.suite_run.specs.declared.lane_recorder.LanesRefusal.{LanesRefusal}
use Rattle.suite_run.specs.declared.lane_recorder.LanesRefusal.TheVariants as lanes
use Rattle.suite_run.specs.declared.lane_starter.StartRefusal.{StartRefusal}
use Rattle.suite_run.specs.declared.lane_starter.StartRefusal.TheVariants as start
use Rattle.command_steps.specs.Telling.{place_text, pattern_place_text}
use Rattle.command_steps.specs.declared.times_file.TimesRefusal.{TimesRefusal}
use Rattle.command_steps.specs.declared.times_file.TimesRefusal.TheVariants as times_file
use Rattle.command_steps.specs.Reporting.{memory_text}
use Rattle.testr_conf.specs.declared.fault.JobFault.{JobFault}
use Rattle.testr_conf.specs.declared.fault.JobFault.TheVariants as job
use Rattle.testr_conf.specs.declared.fault.Key.{Key}
use Rattle.testr_conf.specs.declared.fault.Key.TheVariants as key

-- the line where a file of the project is not read
abbrev pub project_file_text : List ℕ
project_file_text = codes "testr: fault reading a file\n"

-- the line where a program is not started
abbrev pub spawn_text : List ℕ
spawn_text = codes "testr: fault starting a program\n"

-- the line where a program is not read to its end
abbrev pub child_text : List ℕ
child_text = codes "testr: fault reading a program\n"

-- the line where the file of this name is too long
abbrev pub long_text : List ℕ → List ℕ
long_text name = codes "testr: " ++ name ++ codes " is too long\n"

-- the line where an id of a test is too long to be told of
abbrev pub long_id_text : List ℕ
long_id_text = codes "testr: an id has more than 65536 bytes\n"

-- ---- the configuration

-- the exit status where the configuration is refused: 3 by what its files say, 4 where a read failed, 5 where memory was
-- wanting
abbrev pub conf_exit_status : ConfRefusal → ℕ
conf_exit_status conf.Site = 4
conf_exit_status conf.Absent = 3
conf_exit_status (conf.Bad file why) = 3
conf_exit_status conf.NoMemory = 5

-- the key of the table of stestr
abbrev pub table_key_text : TableKey → List ℕ
table_key_text table_key.TestPath = codes "test_path"
table_key_text table_key.TopDir = codes "top_dir"
table_key_text table_key.GroupRegex = codes "group_regex"
table_key_text table_key.ParallelClass = codes "parallel_class"

-- the name of the configuration's file
abbrev pub conf_file_text : ConfFile → List ℕ
conf_file_text file.TestrConf = codes ".testr.conf"
conf_file_text file.StestrConf = codes ".stestr.conf"
conf_file_text file.PyProject = codes "pyproject.toml"

-- what is told of it behind its name
abbrev pub bad_conf_text : BadConf → List ℕ
bad_conf_text bad.TooLong = codes " is too long\n"
bad_conf_text (bad.BadLine number) = codes " line " ++ decimal number ++ codes ": not a setting\n"
bad_conf_text (bad.NoSection number) = codes " line " ++ decimal number ++ codes ": outside a section\n"
bad_conf_text (bad.Repeated number) = codes " line " ++ decimal number ++ codes ": repeated\n"
bad_conf_text bad.NoInstances = codes ": no instances were provisioned\n"
bad_conf_text bad.NoCommand = codes ": no test_command\n"
bad_conf_text bad.NoTestPath = codes ": no test_path\n"
bad_conf_text bad.NotToml = codes ": no TOML\n"
bad_conf_text bad.NotTable = codes ": tool.stestr is no table\n"
bad_conf_text (bad.BadValue key) = codes ": bad value of " ++ table_key_text key ++ codes "\n"

-- the line where the configuration is refused
abbrev pub conf_text : ConfRefusal → List ℕ
conf_text conf.Site = project_file_text
conf_text conf.Absent = codes "testr: no .testr.conf or .stestr.conf\n"
conf_text (conf.Bad file why) = codes "testr: " ++ conf_file_text file ++ bad_conf_text why
conf_text conf.NoMemory = memory_text

-- ---- patterns

-- here a look-around begins
abbrev pub is_look_around : List ℕ → Bool
is_look_around bytes = starts_with nat_eq bytes (codes "(?!") || (starts_with nat_eq bytes (codes "(?=") || starts_with nat_eq bytes (codes "(?<"))

-- one begins somewhere in the pattern
abbrev pub has_look_around : List ℕ → Bool
has_look_around [] = false
has_look_around (byte ∷ bytes) = is_look_around (byte ∷ bytes) || has_look_around bytes

-- what stands behind a pattern that is refused: the end of the line, and where it has a look-around a further line
abbrev pub end_of_pattern : List ℕ → List ℕ
end_of_pattern pattern = if has_look_around pattern then codes "\ntestr: look-around is not known; --exclude-regex leaves tests out\n" else codes "\n"

-- the exit status where a pattern is refused: 3 for a bad one, 5 where memory was wanting
abbrev pub pattern_exit_status : PatternRefusal → ℕ
pattern_exit_status (pattern.Bad given) = 3
pattern_exit_status pattern.NoMemory = 5

-- the line where a pattern is refused
abbrev pub pattern_text : PatternRefusal → List ℕ
pattern_text (pattern.Bad given) = codes "testr: bad pattern: " ++ given.now ++ end_of_pattern given.now
pattern_text pattern.NoMemory = memory_text

-- the line where a line of a list is no pattern
abbrev pub bad_line_text : BadLine → List ℕ
bad_line_text line = codes "testr: " ++ pattern_place_text line.name.now line.number line.pattern ++ end_of_pattern line.pattern

-- ---- a list of ids, or of patterns

-- the exit status where a list is refused: 3 where its file is missing or too long or has a bad line, 4 where a read
-- failed, 5 where memory was wanting
abbrev pub list_exit_status : ListRefusal → ℕ
list_exit_status load_list.Site = 4
list_exit_status (load_list.TooLong given) = 3
list_exit_status (load_list.Absent given) = 3
list_exit_status (load_list.NotId given number) = 3
list_exit_status load_list.NoMemory = 5

-- the line where a list is refused
abbrev pub list_text : ListRefusal → List ℕ
list_text load_list.Site = project_file_text
list_text (load_list.TooLong given) = long_text given.now
list_text (load_list.Absent given) = codes "testr: no file " ++ given.now ++ codes "\n"
list_text (load_list.NotId given number) = codes "testr: " ++ place_text given.now number ++ codes ": not an id\n"
list_text load_list.NoMemory = memory_text

-- ---- a file of times

-- the exit status where a file of times is refused: 3 where it is missing, too long or no times, 4 where a read failed,
-- 5 where memory was wanting
abbrev pub times_exit_status : TimesRefusal → ℕ
times_exit_status times_file.Site = 4
times_exit_status (times_file.TooLong given) = 3
times_exit_status (times_file.Absent given) = 3
times_exit_status (times_file.NotTimes given) = 3
times_exit_status times_file.NoMemory = 5

-- the line where a file of times is refused
abbrev pub times_text : TimesRefusal → List ℕ
times_text times_file.Site = project_file_text
times_text (times_file.TooLong given) = long_text given.now
times_text (times_file.Absent given) = codes "testr: no file " ++ given.now ++ codes "\n"
times_text (times_file.NotTimes given) = codes "testr: " ++ given.now ++ codes " is no times\n"
times_text times_file.NoMemory = memory_text

-- ---- the number of workers

-- the exit status where the number of workers is not called out: 3 where none was told, 4 where the program was not
-- started or read, 5 where memory was wanting
abbrev pub call_exit_status : CallRefusal → ℕ
call_exit_status call.Spawn = 4
call_exit_status call.Child = 4
call_exit_status (call.NoNumber said) = 3
call_exit_status call.NoMemory = 5

-- what the program said that was to call the number out, where it told none
abbrev pub call_said : CallRefusal → List ℕ
call_said (call.NoNumber said) = said
call_said fault = []

-- the line where the number of workers is not called out
abbrev pub call_text : CallRefusal → List ℕ
call_text call.Spawn = spawn_text
call_text call.Child = child_text
call_text (call.NoNumber said) = codes "testr: test_run_concurrency gave no number\n"
call_text call.NoMemory = memory_text

-- the exit status where the table of processors is refused: 3 where it is too long, 4 where a read failed, 5 where
-- memory was wanting
abbrev pub table_exit_status : TableRefusal → ℕ
table_exit_status table.Site = 4
table_exit_status table.TooLong = 3
table_exit_status table.NoMemory = 5

-- the line where the table of processors is refused
abbrev pub table_text : TableRefusal → List ℕ
table_text table.Site = project_file_text
table_text table.TooLong = codes "testr: /proc/cpuinfo is too long\n"
table_text table.NoMemory = memory_text

-- ---- the listing, and the jobs

-- the line where the configuration lacks this key
abbrev pub key_text : Key → List ℕ
key_text key.IdOption = codes "testr: .testr.conf: test_id_option is needed\n"
key_text key.ListOption = codes "testr: .testr.conf: test_list_option is needed\n"

-- the exit status where the tests are not listed: 3 where the listing failed or has no option, 4 where the program was
-- not started or read, 5 where memory was wanting
abbrev pub listing_exit_status : ListingRefusal → ℕ
listing_exit_status listing.NoListOption = 3
listing_exit_status listing.Spawn = 4
listing_exit_status listing.Child = 4
listing_exit_status (listing.Failed status said) = 3
listing_exit_status listing.NoMemory = 5

-- what the listing said that failed
abbrev pub listing_said : ListingRefusal → List ℕ
listing_said (listing.Failed status said) = said
listing_said fault = []

-- the line where the tests are not listed
abbrev pub listing_refusal_text : ListingRefusal → List ℕ
listing_refusal_text listing.NoListOption = key_text key.ListOption
listing_refusal_text listing.Spawn = spawn_text
listing_refusal_text listing.Child = child_text
listing_refusal_text (listing.Failed status said) = codes "testr: listing ended with " ++ signed_decimal status ++ codes "\n"
listing_refusal_text listing.NoMemory = memory_text

-- the exit status where a job is not made: 3 where the configuration lacks an option for it, 5 where memory was wanting
abbrev pub job_exit_status : JobFault → ℕ
job_exit_status (job.NoOption which) = 3
job_exit_status job.NoMemory = 5

-- the line where a job is not made
abbrev pub job_text : JobFault → List ℕ
job_text (job.NoOption which) = key_text which
job_text job.NoMemory = memory_text

-- ---- the workers

-- the exit status where the workers are not started: 4 where a start failed, 5 where memory was wanting
abbrev pub start_exit_status : StartRefusal → ℕ
start_exit_status start.Spawn = 4
start_exit_status start.NoMemory = 5

-- the line where the workers are not started
abbrev pub start_text : StartRefusal → List ℕ
start_text start.Spawn = spawn_text
start_text start.NoMemory = memory_text

-- the exit status where the lanes are not recorded: 4 where a call of the folder failed, 5 where memory was wanting
abbrev pub lanes_exit_status : LanesRefusal → ℕ
lanes_exit_status (lanes.Shelf which) = 4
lanes_exit_status lanes.NoMemory = 5

-- the line where the lanes are not recorded
abbrev pub lanes_text : LanesRefusal → List ℕ
lanes_text (lanes.Shelf which) = codes "testr: fault of the repository folder\n"
lanes_text lanes.NoMemory = memory_text

-- ---- the search for causes

-- the exit status where a search comes to no verdict: 4 where a probe was not started or read, 5 where memory was
-- wanting
abbrev pub search_exit_status : SearchFault → ℕ
search_exit_status search_fault.Spawn = 4
search_exit_status search_fault.Child = 4
search_exit_status search_fault.NoMemory = 5

-- the line where a search comes to no verdict
abbrev pub search_text : SearchFault → List ℕ
search_text search_fault.Spawn = spawn_text
search_text search_fault.Child = child_text
search_text search_fault.NoMemory = memory_text
