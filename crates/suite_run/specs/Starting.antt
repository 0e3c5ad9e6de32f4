-- What the start of a run's children does to the outputs and the jobs of a spawner (docs/DISK.md, spawners).
use Rattle.std.specs.Prelude.{◌≡◌, ℕ, Bool, true, false, Option, Some, List, [], ◌∷◌, ◌++◌, length, map, Result, Ok, Err, IfOk, IfErr, Vec}
use Rattle.std.specs.declared.alloc.Global.{Global}
use Rattle.std.specs.List.{AllByRecursion}
use Rattle.std.specs.Option.{option_map}
use Rattle.edge_io.specs.Causes.{RisesExactlyIf}
use Rattle.edge_io.specs.Children.{Output, IsOutput, AreBytesLeft, CanFinish}
use Rattle.edge_io.specs.Seen.{Seen}
use Rattle.edge_io.specs.Spawners.{Spawning, Starts}
use Rattle.edge_io.specs.Steps.{Goes}
use Rattle.edge_io.specs.declared.job.Job.{Job}
use Rattle.suite_run.specs.declared.lane_starter.StartRefusal.{StartRefusal}
use Rattle.suite_run.specs.declared.lane_starter.StartRefusal.TheVariants.{Spawn, NoMemory}
use Rattle.worker_lane.specs.Lanes.{rest}
use Rattle.worker_lane.specs.Rest.{lots_asked}
use Rattle.worker_lane.specs.declared.lane.Lane.{Lane}
use Rattle.worker_lane.specs.declared.lot.Lot.{Lot}
use Rattle.worker_mux.specs.Outputs.{AreAllTexts, lots_asked_from}

-- these jobs were started, in order, and no others: their children tell these outputs, which were the first ones to come
pub record StartsAll (jobs : List Job) (outputs : List Output) (s t : Spawning) : Type 0 where
  pub count : length outputs ≡ length jobs
  pub taken : s.outputs ≡ outputs ++ t.outputs
  pub jobs_are : t.started ≡ s.started ++ jobs

-- These jobs were started, and the child of each is read as the lane of its place: this is what these lanes have to give,
-- where the jobs name these ids, which are texts.
pub record HasStarted (jobs : List Job) (asked : List (List (List ℕ))) (rests : List (Option (List Lot))) (s t : Spawning) : Type 0 where
  pub outputs : List Output
  pub all : StartsAll jobs outputs s t
  pub are_outputs : AllByRecursion IsOutput outputs
  pub texts : AreAllTexts asked
  pub rests_are : rests ≡ lots_asked_from 0 asked (map Some outputs)

-- some first jobs were started, and no others: where a start failed, not all of them
pub record StartsSome (jobs : List Job) (refusal : StartRefusal) (s t : Spawning) : Type 0 where
  pub done : List Job
  pub more : List Job
  pub jobs_are : jobs ≡ done ++ more
  pub outputs : List Output
  pub started : StartsAll done outputs s t
  pub failed : refusal ≡ Spawn → more ≡ [] → ⊥

-- the start was refused since a call of the spawner failed; want of memory is no such failure
abbrev pub start_failed : {T : Type 0} → Result T StartRefusal → Bool
start_failed (Ok lanes) = false
start_failed (Err Spawn) = true
start_failed (Err NoMemory) = false

-- The start of the jobs, which name these ids, by what the lanes over their children have to give, where these tell.
pub record StartsLanes (jobs : List Job) (asked : List (List (List ℕ))) (before after : Seen Spawning) (result : Result (List (Option (List Lot))) StartRefusal) : Type 0 where
  pub started : IfOk result (λ rests. Goes before.told after.told (HasStarted jobs asked rests))
  pub count : IfOk result (λ rests. length rests ≡ length jobs)
  pub refused : IfErr result (λ refusal. Goes before.told after.told (StartsSome jobs refusal))
  pub sum : RisesExactlyIf before.faults after.faults (start_failed result)

-- what the lanes of an answer have to give, each where its child tells
abbrev pub rests_in : {C E : Type 0} → (C → Seen Output) → Result (Vec (Lane C) Global) E → Result (List (Option (List Lot))) E
rests_in seen (Ok lanes) = Ok (map (rest seen) lanes.items)
rests_in seen (Err refusal) = Err refusal

-- one job more was started, which names these ids, and its child is read as the lane of the next number
pub record StartsNext (job : Job) (ids : List (List ℕ)) (before after : List (Option (List Lot))) (old new : Option Spawning) : Type 0 where
  pub child : Option Output
  pub started : Goes old new (Starts job child)
  pub are_bytes : AreBytesLeft child
  pub has_finish : CanFinish child
  pub rests_are : after ≡ before ++ option_map (lots_asked (length before) ids) child ∷ []
