-- How the probes of a search are asked, and what is left at each exit (docs/FORMATS.md, "Causes"; docs/DISK.md, spawners).
use Rattle.std.specs.Prelude.{◌≡◌, ◌⊎◌, ⊤, ℕ, ◌<◌, Bool, true, false, Some, Result, Ok, Err, IfOk, IfErr, IsOk, List, [], ◌++◌, length, map}
use Rattle.std.specs.List.{AllByRecursion}
use Rattle.edge_io.specs.Causes.{RisesExactlyIf}
use Rattle.edge_io.specs.Children.{Output}
use Rattle.edge_io.specs.Seen.{Seen}
use Rattle.edge_io.specs.Spawners.{Spawning}
use Rattle.edge_io.specs.Steps.{Goes, Stays}
use Rattle.edge_io.specs.declared.job.Job.{Job}
use Rattle.isolation_bisect.specs.Orders.{next_probe, AskedInOrder, answers_of}
use Rattle.isolation_bisect.specs.Probes.{probe_ids}
use Rattle.isolation_bisect.specs.Verdicts.{Licenses}
use Rattle.isolation_bisect.specs.declared.found.Found.{Found}
use Rattle.isolation_bisect.specs.declared.found.Found.TheVariants as found
use Rattle.isolation_bisect.specs.declared.probe.Asked.{Asked}
use Rattle.isolation_bisect.specs.declared.probe.Probe.{Probe}
use Rattle.suite_plan.specs.Children.{StartsFor, IsBroken}
use Rattle.testr_conf.specs.Jobs.{run_job_of}
use Rattle.testr_conf.specs.Settings.{Settings}
use Rattle.testr_conf.specs.declared.fault.JobFault.{JobFault}
use Rattle.suite_causes.specs.Probing.{fails_in, HasAnswer}
use Rattle.suite_causes.specs.declared.cause_search.SearchFault.{SearchFault}
use Rattle.suite_causes.specs.declared.cause_search.SearchFault.TheVariants.{Spawn, Child, NoMemory}

-- lists of ids of tests, in order
abbrev pub TestIds : Type 0
TestIds = List (List ℕ)

-- the job of a probe that runs these ids: that of lane 0
abbrev pub probe_job : Settings → TestIds → Result Job JobFault
probe_job settings ids = run_job_of settings (Some ids) 0

-- a cause is one of the candidates
abbrev pub IsAmong : (candidates : TestIds) → Found → Type 0
IsAmong candidates found.Alone = ⊤
IsAmong candidates found.NotSeen = ⊤
IsAmong candidates found.Several = ⊤
IsAmong candidates (found.Cause cause) = cause < length candidates

-- each probe has a job (of a command that takes no ids it runs all tests)
abbrev pub CanHandIds : Settings → Type 0
CanHandIds settings = IsOk (probe_job settings [])

-- the job of these ids was started, and its child has an output that meets this
pub record StartsProbe (settings : Settings) (ids : TestIds) (Meets : Output → Type 0) (s t : Spawning) : Type 0 where
  pub job : Job
  pub job_is : probe_job settings ids ≡ Ok job
  pub output : Output
  pub started : StartsFor job output s t
  pub meets : Meets output

-- why a probe of these ids has no answer, and what was done by then
abbrev pub HasProbeCause : Settings → TestIds → SearchFault → Spawning → Spawning → Type 0
HasProbeCause settings ids Spawn s t = IsOk (probe_job settings ids) × Stays s t
HasProbeCause settings ids Child s t = StartsProbe settings ids (λ output. IsBroken output.finish) s t
HasProbeCause settings ids NoMemory s t = Stays s t ⊎ StartsProbe settings ids (λ output. ⊤) s t

-- a search or a probe was refused since a start failed
abbrev pub search_failed : {T : Type 0} → Result T SearchFault → Bool
search_failed (Ok value) = false
search_failed (Err Spawn) = true
search_failed (Err Child) = false
search_failed (Err NoMemory) = false

-- One probe, which runs these ids: whether the test failed. Where the start fails, and there alone, it is refused so.
pub record RunsProbe (settings : Settings) (ids : TestIds) (test : List ℕ) (before after : Seen Spawning) (result : Result Bool SearchFault) : Type 0 where
  pub answered : IfOk result (λ failed. Goes before.told after.told (StartsProbe settings ids (HasAnswer test failed)))
  pub refused : IfErr result (λ fault. Goes before.told after.told (HasProbeCause settings ids fault))
  pub count : RisesExactlyIf before.faults after.faults (search_failed result)

-- Behind these probes of the test, with their answers: each was the next one when it was asked. Their jobs were started, in
-- order, and no others; their children came to their ends, and their outputs, which were the first ones to come, gave the
-- answers.
pub record HasAsked (settings : Settings) (candidates : TestIds) (test : List ℕ) (asked : List Asked) (s t : Spawning) : Type 0 where
  pub in_order : AskedInOrder asked (length candidates)
  pub jobs : List Job
  pub jobs_are : map (λ one. probe_job settings (probe_ids candidates one.probe test)) asked ≡ map Ok jobs
  pub started : t.started ≡ s.started ++ jobs
  pub outputs : List Output
  pub taken : s.outputs ≡ outputs ++ t.outputs
  pub ended : AllByRecursion (λ output. IsBroken output.finish → ⊥) outputs
  pub answers : answers_of asked ≡ map (fails_in test) outputs

-- the answers license what was found
pub record SearchesSo (settings : Settings) (candidates : TestIds) (test : List ℕ) (found : Found) (s t : Spawning) : Type 0 where
  pub asked : List Asked
  pub has : HasAsked settings candidates test asked s t
  pub licensed : Licenses asked (length candidates) found

-- some probes were asked, and the next one has no answer
pub record StopsSearch (settings : Settings) (candidates : TestIds) (test : List ℕ) (fault : SearchFault) (s t : Spawning) : Type 0 where
  pub asked : List Asked
  pub between : Spawning
  pub has : HasAsked settings candidates test asked s between
  pub probe : Probe
  pub next : next_probe asked (length candidates) ≡ Some probe
  pub cause : HasProbeCause settings (probe_ids candidates probe test) fault between t

-- The search for what makes the test fail, among these candidates, of which a cause is one. Where a start fails, and there
-- alone, it is refused so.
pub record Searches (settings : Settings) (candidates : TestIds) (test : List ℕ) (before after : Seen Spawning) (result : Result Found SearchFault) : Type 0 where
  pub found : IfOk result (λ found. Goes before.told after.told (SearchesSo settings candidates test found))
  pub among : IfOk result (IsAmong candidates)
  pub refused : IfErr result (λ fault. Goes before.told after.told (StopsSearch settings candidates test fault))
  pub count : RisesExactlyIf before.faults after.faults (search_failed result)
