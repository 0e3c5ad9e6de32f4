-- The step of `run` that looks for the tests that make others fail (docs/FORMATS.md, "Causes").
use Rattle.std.specs.Prelude.{◌≡◌, ℕ, ◌<◌, Bool, true, false, Option, IfSome, IfOk, All, List, [], ◌∷◌, length, slice_index_or, take, Result}
use Rattle.std.specs.List.{filter}
use Rattle.edge_io.specs.Causes.{RisesExactlyIf}
use Rattle.edge_io.specs.Disk.{Folder}
use Rattle.edge_io.specs.Seen.{Seen}
use Rattle.edge_io.specs.Steps.{Goes, Stays}
use Rattle.outcome_fold.specs.Answers.{row_fails}
use Rattle.outcome_fold.specs.declared.row.Row.{Row}
use Rattle.sub_number.specs.declared.memory.NoMemory.{NoMemory}
use Rattle.suite_causes.specs.Lines.{cause_line}
use Rattle.suite_causes.specs.Ran.{HasRanAt}
use Rattle.suite_causes.specs.Searching.{TestIds, Searches}
use Rattle.suite_causes.specs.Suspects.{count_before, suspects_of}
use Rattle.suite_causes.specs.declared.suspects.Suspect.{Suspect}
use Rattle.testr_conf.specs.Settings.{Settings}
use Rattle.command_steps.specs.Outside.{Work, work_folder, work_spawner, work_out}
use Rattle.command_steps.specs.Reporting.{Prints}
use Rattle.command_steps.specs.Steps.{Step, Then, Still, Gives, At}
use Rattle.command_steps.specs.Told.{tell_failed}
use Rattle.command_steps.specs.declared.answer.Refusal.{Refusal}
use Rattle.command_steps.specs.declared.answer.Refusal.TheVariants.{Suspects, Ran, Search, Print}
use Rattle.command_steps.specs.declared.causes.LaneIds.{LaneIds}
use Rattle.command_steps.specs.declared.question_answers.TellFault.{TellFault}

-- ---- the chain

-- the tests of the rows that fail, each on its lane, where there is memory for them
pub record ListsSuspects (rows : List Row) (result : Result (List Suspect) NoMemory) : Type 0 where
  pub suspects : IfOk result (λ list. list ≡ suspects_of (filter row_fails rows))

-- the ids of the tests that began to run on the lane in the run of this number; the folder stays
pub record FindsRan (number lane : ℕ) (before after : Seen Folder) (result : Result TestIds TellFault) : Type 0 where
  pub ids : IfOk result (λ ids. IfSome before.told (HasRanAt number lane ids))
  pub same : Goes before.told after.told Stays
  pub count : RisesExactlyIf before.faults after.faults (tell_failed result)

-- of the ids of a lane the candidates of a test: those that began to run before it
abbrev pub candidates_in : (test : List ℕ) → TestIds → TestIds
candidates_in test ids = take (count_before test ids) ids

-- what makes the test fail is searched among these candidates, and the line of what was found is printed
abbrev pub FindsAmong : Settings → (test : List ℕ) → (candidates : TestIds) → Step Work (Unit {0}) Refusal
FindsAmong settings test candidates =
    Then Search (At work_spawner (Searches settings candidates test)) (λ found.
    Then Print (At work_out (Prints (cause_line test candidates found))) (λ _.
    Gives tt))

-- the same among those that began to run before the test on its lane, in the run of this number
abbrev pub FindsCause : Settings → (number : ℕ) → Suspect → Step Work (Unit {0}) Refusal
FindsCause settings number one =
    Then Ran (At work_folder (FindsRan number one.lane)) (λ ids.
    FindsAmong settings one.id (candidates_in one.id ids))

-- the same of each of the tests, one after another
abbrev pub FindsEach : Settings → (number : ℕ) → List Suspect → Step Work (Unit {0}) Refusal
FindsEach settings number [] = Gives tt
FindsEach settings number (one ∷ more) =
    Then (λ refusal. refusal) (FindsCause settings number one) (λ _.
    FindsEach settings number more)

-- the search for causes behind the run of this number and these rows, where it is asked for
abbrev pub FindsCauses : (asked : Bool) → Settings → (number : ℕ) → List Row → Step Work (Unit {0}) Refusal
FindsCauses false settings number rows = Gives tt
FindsCauses true settings number rows =
    Then Suspects (Still (ListsSuspects rows)) (λ suspects.
    FindsEach settings number suspects)

-- ---- the code's own state

-- the ids of each lane that was read are those that began to run on it, in the run of this number
abbrev pub AreRanLists : (number : ℕ) → List LaneIds → Option Folder → Type 0
AreRanLists number lists told = All (λ one. IfSome told (HasRanAt number one.lane one.ids)) lists

-- the ids of the lane stand at this place
pub record IsPlaceOf (lane : ℕ) (lists : List LaneIds) (place : ℕ) : Type 0 where
  pub below : place < length lists
  pub lane_is : (other : LaneIds) → (slice_index_or lists place other).lane ≡ lane
