-- The number that a project's count job tells (docs/FORMATS.md, "What a count job tells").
use Rattle.std.specs.Prelude.{◌≡◌, ◌⊎◌, ⊤, ℕ, ℤ, ◌&&◌, Bool, true, false, pos, Option, Some, None, IsSome, Result, Ok, Err, IfOk, IfErr, List, length, nat_le, if◌then◌else◌}
use Rattle.std.specs.Char.{is_ascii_digit}
use Rattle.std.specs.List.{list_all}
use Rattle.std.specs.Str.Parse.{digits_value}
use Rattle.edge_io.specs.Causes.{RisesExactlyIf}
use Rattle.edge_io.specs.Children.{Output}
use Rattle.edge_io.specs.Seen.{Seen}
use Rattle.edge_io.specs.Spawners.{Spawning}
use Rattle.edge_io.specs.Steps.{Goes, Stays}
use Rattle.edge_io.specs.declared.child.Finish.TheVariants.{Exit}
use Rattle.edge_io.specs.declared.job.Job.{Job}
use Rattle.testr_conf.specs.Jobs.{count_job_of}
use Rattle.testr_conf.specs.Settings.{Settings}
use Rattle.testr_conf.specs.White.{trimmed}
use Rattle.suite_plan.specs.Children.{StartsFor, IsBroken}
use Rattle.suite_plan.specs.Saying.{told_of}
use Rattle.suite_plan.specs.declared.count_command.CallRefusal.{CallRefusal}
use Rattle.suite_plan.specs.declared.count_command.CallRefusal.TheVariants.{Spawn, Child, NoNumber, NoMemory}

-- 1 to 9 decimal digits
abbrev pub is_count : List ℕ → Bool
is_count digits = list_all is_ascii_digit digits && (nat_le 1 (length digits) && nat_le (length digits) 9)

-- the number that the digits are, where they are a number of workers
abbrev pub called_count : List ℕ → Option ℕ
called_count digits = if is_count digits then Some (digits_value 10 digits) else None

-- the number that a whole output tells, which has 64 bytes at most, between white space and newlines
abbrev pub called_number : List ℕ → Option ℕ
called_number bytes = if nat_le (length bytes) 64 then called_count (trimmed bytes) else None

-- the count job was started, and its child has an output that meets this
pub record StartsCounting (settings : Settings) (Meets : Output → Type 0) (s t : Spawning) : Type 0 where
  pub job : Job
  pub job_is : count_job_of settings ≡ Some job
  pub output : Output
  pub started : StartsFor job output s t
  pub meets : Meets output

-- the child ended with 0, and its output tells the number
pub record TellsNumber (number : ℕ) (output : Output) : Type 0 where
  pub ended : output.finish ≡ Exit (pos 0)
  pub number_is : called_number output.bytes ≡ Some number

-- The child ended with another status than 0, or its output tells no number. This is told of its output, as a text.
pub record TellsNone (said : List ℕ) (output : Output) : Type 0 where
  pub status : ℤ
  pub ended : output.finish ≡ Exit status
  pub none : (status ≡ pos 0 → ⊥) ⊎ (called_number output.bytes ≡ None)
  pub says : said ≡ told_of output.bytes

-- where there is no count job nothing is started
abbrev pub CallsSo : Settings → Option ℕ → Spawning → Spawning → Type 0
CallsSo settings None s t = Stays s t
CallsSo settings (Some number) s t = StartsCounting settings (TellsNumber number) s t

-- why no number is told, and what was done by then
abbrev pub HasCallCause : Settings → CallRefusal → Spawning → Spawning → Type 0
HasCallCause settings Spawn s t = IsSome (count_job_of settings) × Stays s t
HasCallCause settings Child s t = StartsCounting settings (λ output. IsBroken output.finish) s t
HasCallCause settings (NoNumber said) s t = StartsCounting settings (TellsNone said) s t
HasCallCause settings NoMemory s t = Stays s t ⊎ StartsCounting settings (λ output. ⊤) s t

-- the number of workers was not told since a start failed
abbrev pub call_failed : Result (Option ℕ) CallRefusal → Bool
call_failed (Ok number) = false
call_failed (Err Spawn) = true
call_failed (Err Child) = false
call_failed (Err (NoNumber said)) = false
call_failed (Err NoMemory) = false

-- The step of a call for the number. None is told exactly where there is no count job, and but for want of memory.
pub record CallsOut (settings : Settings) (before after : Seen Spawning) (result : Result (Option ℕ) CallRefusal) : Type 0 where
  pub told : IfOk result (λ number. Goes before.told after.told (CallsSo settings number))
  pub refused : IfErr result (λ refusal. Goes before.told after.told (HasCallCause settings refusal))
  pub jobless : result ≡ Ok None → count_job_of settings ≡ None
  pub exactly : count_job_of settings ≡ None → (result ≡ Ok None) ⊎ (result ≡ Err NoMemory)
  pub count : RisesExactlyIf before.faults after.faults (call_failed result)
