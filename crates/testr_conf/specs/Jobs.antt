-- The jobs of a configuration (docs/FORMATS.md, "Jobs" and "Instances").
use Rattle.std.specs.Prelude.{ℕ, Bool, not, ◌&&◌, ◌||◌, ◌==◌, length, Option, None, Some, Result, Ok, Err, List, [], ◌∷◌, ◌++◌, codes, if◌then◌else◌}
use Rattle.std.specs.Char.{is_ascii_alphanumeric}
use Rattle.std.specs.List.{flat_map, join_by, list_all, slice_get}
use Rattle.std.specs.Option.{option_map, unwrap_or}
use Rattle.std.specs.Fmt.{decimal}
use Rattle.edge_io.specs.declared.job.Job.{Job}
use Rattle.edge_io.specs.declared.job.IdFile.{IdFile}
use Rattle.testr_conf.specs.declared.fault.JobFault.{JobFault}
use Rattle.testr_conf.specs.declared.fault.JobFault.TheVariants.{NoOption}
use Rattle.testr_conf.specs.declared.fault.Key.TheVariants as key
use Rattle.testr_conf.specs.declared.variable.Variable.TheVariants as name
use Rattle.testr_conf.specs.Settings.{Settings}
use Rattle.testr_conf.specs.Variables.{TestValues, ExecuteValues, of_test, of_provision, of_execute, of_dispose, has_variable, filled}

-- a command that reads no id file
abbrev pub plain_job : List ℕ → Job
plain_job command = record { command = command; id_file = None }

-- The path of a file of ids.

-- an ASCII letter, a digit, or one of the signs `/`, `.`, `_`, `-`, `+`, `@`, `%`, `,`, `:` and `=`, which no shell reads
abbrev pub is_plain_byte : ℕ → Bool
is_plain_byte byte =
    is_ascii_alphanumeric byte
    || (byte == 47 || byte == 46 || byte == 95 || byte == 45 || byte == 43 || byte == 64 || byte == 37 || byte == 44 || byte == 58 || byte == 61)

-- a path of such bytes, of which there is one at least
abbrev pub is_plain_path : List ℕ → Bool
is_plain_path path = not (length path == 0) && list_all is_plain_byte path

-- the path of a file of this name in the folder of this path, where that is plain; else the name
abbrev pub path_in : List ℕ → List ℕ → List ℕ
path_in folder name = if is_plain_path folder then folder ++ 47 ∷ name else name

-- A job on an instance.

-- the path of the file of ids that a job reads, in the folder of this path; nothing, where it reads none
abbrev pub files_value : (folder : List ℕ) → Option IdFile → List ℕ
files_value folder None = []
files_value folder (Some file) = path_in folder file.name

-- the values of variables in the text that runs the job's command on this instance
abbrev pub execute_values : (folder instance : List ℕ) → Job → ExecuteValues
execute_values folder instance job = record { instance = instance; files = files_value folder job.id_file; command = job.command }

-- the job whose command is run on this instance by this text
abbrev pub executed_on : (folder execute instance : List ℕ) → Job → Job
executed_on folder execute instance job = record job { command = filled (of_execute (execute_values folder instance job)) execute }

-- the job as it is run where such a text and such an instance may not be there; then it is itself
abbrev pub executed_by : (folder : List ℕ) → (execute instance : Option (List ℕ)) → Job → Job
executed_by folder (Some execute) (Some instance) job = executed_on folder execute instance job
executed_by folder (Some execute) None job = job
executed_by folder None instance job = job

-- the job as it is run in a lane, which has the instance of its number; where there is none, it is itself
abbrev pub executed : Settings → (lane : ℕ) → Job → Job
executed settings lane job = executed_by settings.folder settings.execute (slice_get settings.instances lane) job

-- the same, where the job is made
abbrev pub executed_in : Settings → (lane : ℕ) → Result Job JobFault → Result Job JobFault
executed_in settings lane (Ok job) = Ok (executed settings lane job)
executed_in settings lane (Err fault) = Err fault

-- The job that lists the tests.

-- the values of variables in the command that lists: the list of ids that is set, and the option
abbrev pub list_values : List ℕ → List ℕ → TestValues
list_values id_list option = record { id_option = []; id_file = []; id_list = id_list; list_option = option }

-- the job that lists the tests, by the command, the list of ids and the option for that
abbrev pub list_job_by : List ℕ → List ℕ → Option (List ℕ) → Result Job JobFault
list_job_by command id_list None = Err (NoOption key.ListOption)
list_job_by command id_list (Some option) =
    if has_variable name.ListOption command then Ok (plain_job (filled (of_test (list_values id_list option)) command))
    else Err (NoOption key.ListOption)

-- the job that lists the tests, in the first lane
abbrev pub list_job_of : Settings → Result Job JobFault
list_job_of settings = executed_in settings 0 (list_job_by settings.command (unwrap_or settings.id_list []) settings.list_option)

-- The words that stand behind the command of a job that runs tests.

-- a byte between single quotes, of which one would end them
abbrev pub quoted_byte : ℕ → List ℕ
quoted_byte byte = if byte == 39 then codes "'\\''" else byte ∷ []

-- a word between single quotes
abbrev pub single_quoted : List ℕ → List ℕ
single_quoted word = 39 ∷ flat_map quoted_byte word ++ 39 ∷ []

-- each word between single quotes, behind a space
abbrev pub arguments_text : List (List ℕ) → List ℕ
arguments_text words = flat_map (λ word. 32 ∷ single_quoted word) words

-- the job, with these words behind its command
abbrev pub followed_by : List (List ℕ) → Job → Job
followed_by words job = record job { command = job.command ++ arguments_text words }

-- the same, where the job is made
abbrev pub followed : List (List ℕ) → Result Job JobFault → Result Job JobFault
followed words (Ok job) = Ok (followed_by words job)
followed words (Err fault) = Err fault

-- The job that runs all tests.

-- the values of variables in the command that runs all tests: the list of ids that is set
abbrev pub all_values : List ℕ → TestValues
all_values id_list = record { id_option = []; id_file = []; id_list = id_list; list_option = [] }

-- the job that runs all tests, wherever it runs
abbrev pub own_all_job_of : Settings → Job
own_all_job_of settings = followed_by settings.arguments (plain_job (filled (of_test (all_values (unwrap_or settings.id_list []))) settings.command))

-- the same in the first lane
abbrev pub all_job_of : Settings → Job
all_job_of settings = executed settings 0 (own_all_job_of settings)

-- The job of a lane that runs these tests.

-- the name of a lane's file of ids
abbrev pub id_file_name : ℕ → List ℕ
id_file_name lane = codes ".testr-ids." ++ decimal lane

-- each id on a line
abbrev pub id_lines : List (List ℕ) → List ℕ
id_lines ids = flat_map (λ id. id ++ 10 ∷ []) ids

-- with a space between each two
abbrev pub id_list_of : List (List ℕ) → List ℕ
id_list_of ids = join_by (λ id. id) (32 ∷ []) ids

-- a lane's file of ids
abbrev pub id_file_of : List (List ℕ) → ℕ → IdFile
id_file_of ids lane = record { name = id_file_name lane; bytes = id_lines ids }

-- Within the option no option is replaced, so that a `$IDOPTION` there is nothing. The project stands in the folder of this path.
abbrev pub option_values : List ℕ → List (List ℕ) → ℕ → TestValues
option_values folder ids lane =
    record { id_option = []; id_file = path_in folder (id_file_name lane); id_list = id_list_of ids; list_option = [] }

-- the values of variables in the command that runs these tests in a lane
abbrev pub ids_values : List ℕ → List ℕ → List (List ℕ) → ℕ → TestValues
ids_values folder option ids lane =
    record { id_option = filled (of_test (option_values folder ids lane)) option; id_file = path_in folder (id_file_name lane); id_list = id_list_of ids; list_option = [] }

-- the job that runs these tests in a lane, by the folder, the command and its option for ids
abbrev pub ids_job : List ℕ → List ℕ → List ℕ → List (List ℕ) → ℕ → Job
ids_job folder command option ids lane =
    record { command = filled (of_test (ids_values folder option ids lane)) command; id_file = Some (id_file_of ids lane) }

-- the same job, where the option may not be set and the command may need it
abbrev pub ids_job_by : List ℕ → List ℕ → Option (List ℕ) → List (List ℕ) → ℕ → Result Job JobFault
ids_job_by folder command (Some option) ids lane = Ok (ids_job folder command option ids lane)
ids_job_by folder command None ids lane =
    if has_variable name.IdOption command then Err (NoOption key.IdOption) else Ok (ids_job folder command [] ids lane)

-- of all tests, or of these
abbrev pub run_job_of : Settings → Option (List (List ℕ)) → ℕ → Result Job JobFault
run_job_of settings None lane = Ok (all_job_of settings)
run_job_of settings (Some ids) lane =
    executed_in settings lane (followed settings.arguments (ids_job_by settings.folder settings.command settings.id_option ids lane))

-- The job that tells how many tests may run at a time, where there is one.
abbrev pub count_job_of : Settings → Option Job
count_job_of settings = option_map plain_job settings.concurrency

-- The jobs that provision instances and dispose of them.

-- the job that provisions so many instances, where there is one
abbrev pub provision_job_of : Settings → (count : ℕ) → Option Job
provision_job_of settings count = option_map (λ text. plain_job (filled (of_provision (decimal count)) text)) settings.provision

-- the job that disposes of the instances, where there is one
abbrev pub dispose_job_of : Settings → Option Job
dispose_job_of settings = option_map (λ text. plain_job (filled (of_dispose (id_list_of settings.instances)) text)) settings.dispose
