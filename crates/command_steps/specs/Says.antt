-- How questions are answered of the runs that a folder shows.
use Rattle.std.specs.Prelude.{◌≡◌, ⊤, ℕ, ◌+◌, Bool, true, false, Some, List, [], ◌∷◌, ◌++◌, codes}
use Rattle.std.specs.FinMap.{FinMap}
use Rattle.std.specs.Fmt.{decimal}
use Rattle.edge_io.specs.Disk.{Folder}
use Rattle.outcome_fold.specs.declared.row.Row.{Row}
use Rattle.outcome_fold.specs.Order.{text_cmp}
use Rattle.run_shelf.specs.Repository.{Run, run_at, IsRepository}
use Rattle.run_ledger.specs.Reading.{AreRowsOf}
use Rattle.run_ledger.specs.Ledger.{IsFailingSet}
use Rattle.skip_reasons.specs.Skips.{TellsSkips}
use Rattle.build_notes.specs.Notes.{failure_notes}
use Rattle.last_failures.specs.Last.{AreLastFailures}
use Rattle.last_failures.specs.declared.failures.Failure.{Failure}
use Rattle.last_failures.specs.Texts.{failures_text as last_failures_text_of, packets_text}
use Rattle.sub_text.specs.Texts.{report_of, slowest_of, failing_text_of}
use Rattle.command_steps.specs.Verdicts.{verdict_of}
use Rattle.command_steps.specs.Runs.{HasRuns}
use Rattle.command_steps.specs.Trusted.{SoundFailing}
use Rattle.testr_words.specs.declared.command.Question.{Question}
use Rattle.testr_words.specs.declared.command.Question.TheVariants.{Last, Skips, Notes, Failing, LastFailures, FailurePackets, Slowest, Stats}
use Rattle.command_steps.specs.declared.answer.Verdict.{Verdict}
use Rattle.command_steps.specs.declared.answer.Verdict.TheVariants as verdict

-- the last run that the folder shows, and its number
pub record IsLast (s : Folder) (number : ℕ) (run : Run) : Type 0 where
  pub count : HasRuns (number + 1) s
  pub there : run_at s.disk.published number ≡ Some run

-- the bytes of the last run
pub record SaysBytes (s : Folder) (text : List ℕ) (v : Verdict) : Type 0 where
  pub number : ℕ
  pub run : Run
  pub last : IsLast s number run
  pub text_is : text ≡ run.bytes
  pub verdict_is : v ≡ verdict.Passed

-- the report of the last run
pub record SaysReport (s : Folder) (text : List ℕ) (v : Verdict) : Type 0 where
  pub number : ℕ
  pub run : Run
  pub rows : List Row
  pub last : IsLast s number run
  pub rows_are : AreRowsOf run.bytes rows
  pub text_is : text ≡ report_of rows number []
  pub verdict_is : v ≡ verdict_of rows

-- the report of the last run, and behind it why tests were skipped
pub record SaysSkips (s : Folder) (text : List ℕ) (v : Verdict) : Type 0 where
  pub number : ℕ
  pub run : Run
  pub rows : List Row
  pub last : IsLast s number run
  pub rows_are : AreRowsOf run.bytes rows
  pub skips : List ℕ
  pub tells : TellsSkips rows skips
  pub text_is : text ≡ report_of rows number [] ++ skips
  pub verdict_is : v ≡ verdict_of rows

-- why tests were skipped, where that is wanted
abbrev pub TellsReasons : (skips : Bool) → List Row → List ℕ → Type 0
TellsReasons true rows reasons = TellsSkips rows reasons
TellsReasons false rows reasons = reasons ≡ []

-- the report of a run of this number, why tests were skipped, where that is wanted, and the notes of those that failed
pub record IsNotedReport (skips : Bool) (rows : List Row) (number : ℕ) (text : List ℕ) : Type 0 where
  pub reasons : List ℕ
  pub tells : TellsReasons skips rows reasons
  pub text_is : text ≡ (report_of rows number [] ++ reasons) ++ failure_notes rows

-- so it is of the last run
pub record SaysNotes (skips : Bool) (s : Folder) (text : List ℕ) (v : Verdict) : Type 0 where
  pub number : ℕ
  pub run : Run
  pub rows : List Row
  pub last : IsLast s number run
  pub rows_are : AreRowsOf run.bytes rows
  pub noted : IsNotedReport skips rows number text
  pub verdict_is : v ≡ verdict_of rows

-- the slowest tests of the last run
pub record SaysSlowest (all : Bool) (s : Folder) (text : List ℕ) (v : Verdict) : Type 0 where
  pub number : ℕ
  pub run : Run
  pub rows : List Row
  pub last : IsLast s number run
  pub rows_are : AreRowsOf run.bytes rows
  pub text_is : text ≡ slowest_of rows all
  pub verdict_is : v ≡ verdict.Passed

-- failed where an id is in the failing set
abbrev pub verdict_of_failing : List (List ℕ) → Verdict
verdict_of_failing [] = verdict.Passed
verdict_of_failing (id ∷ ids) = verdict.Failed

-- the tests that fail by all runs
pub record SaysFailing (list : Bool) (s : Folder) (text : List ℕ) (v : Verdict) : Type 0 where
  pub ids : List (List ℕ)
  pub set : IsFailingSet ids s
  pub text_is : text ≡ failing_text_of ids list
  pub verdict_is : v ≡ verdict_of_failing ids

-- how each test that fails by all runs failed last
pub record SaysLastFailures (s : Folder) (text : List ℕ) (v : Verdict) : Type 0 where
  pub ids : List (List ℕ)
  pub set : IsFailingSet ids s
  pub found : FinMap text_cmp Failure
  pub found_are : AreLastFailures false ids found s
  pub text_is : text ≡ last_failures_text_of ids found
  pub verdict_is : v ≡ verdict_of_failing ids

-- the packets of how each test that fails by all runs failed last
pub record SaysFailurePackets (s : Folder) (text : List ℕ) (v : Verdict) : Type 0 where
  pub ids : List (List ℕ)
  pub set : IsFailingSet ids s
  pub found : FinMap text_cmp Failure
  pub found_are : AreLastFailures true ids found s
  pub text_is : text ≡ packets_text ids found
  pub verdict_is : v ≡ verdict.Passed

-- the line with how many runs there are
abbrev pub run_count_line : ℕ → List ℕ
run_count_line count = codes "runs=" ++ decimal count ++ 10 ∷ []

-- how many runs there are
pub record SaysStats (s : Folder) (text : List ℕ) (v : Verdict) : Type 0 where
  pub count : ℕ
  pub runs : HasRuns count s
  pub text_is : text ≡ run_count_line count
  pub verdict_is : v ≡ verdict.Passed

-- of the runs that the folder shows, the question is answered by this text and this verdict
abbrev pub Says : Question → Folder → List ℕ → Verdict → Type 0
Says (Last false) = SaysReport
Says (Last true) = SaysBytes
Says Skips = SaysSkips
Says (Notes skips) = SaysNotes skips
Says (Failing list) = SaysFailing list
Says LastFailures = SaysLastFailures
Says FailurePackets = SaysFailurePackets
Says (Slowest all) = SaysSlowest all
Says Stats = SaysStats

-- What a folder must be so that the question is answered of its runs. The failing set is told with the help of its cache,
-- which must be sound; the other questions are answered from the runs alone.
abbrev pub SoundFor : Question → Folder → Type 0
SoundFor (Failing list) s = SoundFailing s
SoundFor LastFailures s = SoundFailing s
SoundFor FailurePackets s = SoundFailing s
SoundFor question s = ⊤

-- so it is where the folder is sound for it, and the folder is a repository
pub record SaysOfFolder (question : Question) (text : List ℕ) (v : Verdict) (s : Folder) : Type 0 where
  pub repository : IsRepository s.disk.published
  pub says : SoundFor question s → Says question s text v
