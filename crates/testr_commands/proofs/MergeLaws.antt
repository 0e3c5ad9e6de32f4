-- What is recorded of workers that tell their outputs, by the events that were added.
use Rattle.std.proofs.Common.{◌≡◌, ℕ, suc, ◌≤◌, Option, None, Some, IfSome, List, [], ◌∷◌, map, length, refl, ap, arith}
use Rattle.std.specs.List.{AllByRecursion}
use Rattle.edge_io.specs.Children.{IsOutput, Output}
use Rattle.edge_io.specs.Disk.{Folder}
use Rattle.edge_io.specs.Spawners.{Spawning}
use Rattle.edge_io.specs.Steps.{Goes}
use Rattle.edge_io.specs.declared.job.Job.{Job}
use Rattle.outcome_fold.specs.Routes.{SaySame}
use Rattle.outcome_fold.proofs.MergedLemmas.{merge_says_same}
use Rattle.packet_codec.specs.Lanes.{IsMerge, joined}
use Rattle.packet_codec.specs.declared.event.Event.{Event}
use Rattle.suite_run.specs.Starting.{HasStarted, StartsAll}
use Rattle.worker_lane.specs.declared.lot.Lot.{Lot}
use Rattle.worker_mux.specs.Outputs.{AreAllTexts, other_ids, lots_asked_from, lists_asked}
use Rattle.worker_mux.specs.Runs.{AddsMerge}
use Rattle.worker_mux.proofs.OutputLemmas.{merge_of_asked}

-- what the workers that were started tell, where the spawner does
pub record HaveOutputs (jobs : List Job) (asked : List (List (List ℕ))) (rests : List (Option (List Lot))) (a b : Option Spawning) : Type 0 where
  pub outputs : List Output
  pub all : Goes a b (StartsAll jobs outputs)
  pub count : IfSome a (λ _. length outputs ≡ length jobs)
  pub rests_are : IfSome a (λ _. rests ≡ lots_asked_from 0 asked (map Some outputs))
  pub are_outputs : IfSome a (λ _. AllByRecursion IsOutput outputs)
  pub texts : IfSome a (λ _. AreAllTexts asked)

pub have_outputs : (jobs : List Job) (asked : List (List (List ℕ))) (rests : List (Option (List Lot))) (a b : Option Spawning) → Goes a b (HasStarted jobs asked rests) → HaveOutputs jobs asked rests a b
have_outputs jobs asked rests None None started = record { outputs = []; all = tt; count = tt; rests_are = tt; are_outputs = tt; texts = tt }
have_outputs jobs asked rests None (Some t) started = absurd started
have_outputs jobs asked rests (Some s) None started = absurd started
have_outputs jobs asked rests (Some s) (Some t) started = record { outputs = started.outputs; all = started.all; count = started.all.count; rests_are = started.rests_are; are_outputs = started.are_outputs; texts = started.texts }

lists_count : (lane : ℕ) (asked : List (List (List ℕ))) (outputs : List Output) → length (lists_asked lane asked outputs) ≡ length outputs
lists_count lane asked [] = refl
lists_count lane asked (output ∷ outputs) = ap suc (lists_count (suc lane) (other_ids asked) outputs)

-- the events are those of the outputs, merged, and their rows are those of the outputs one after another
pub record AreOfOutputs (events : List Event) (asked : List (List (List ℕ))) (outputs : List Output) : Type 0 where
  pub merged : IsMerge events (lists_asked 0 asked outputs)
  pub in_turn : SaySame events (joined (lists_asked 0 asked outputs))

-- so they are of the workers, where these tell
pub of_outputs : (jobs : List Job) (asked : List (List (List ℕ))) (rests : List (Option (List Lot))) (outputs : List Output) (told : Option Spawning) (old new : Option Folder) → (adds : AddsMerge rests old new) → length jobs ≤ 64 → IfSome told (λ _. length outputs ≡ length jobs) → IfSome told (λ _. rests ≡ lots_asked_from 0 asked (map Some outputs)) → IfSome told (λ _. AllByRecursion IsOutput outputs) → IfSome told (λ _. AreAllTexts asked)
    → IfSome told (λ _. AreOfOutputs adds.events asked outputs)
of_outputs jobs asked rests outputs None old new adds few count rests_are are texts = tt
of_outputs jobs asked rests outputs (Some s) old new adds few count rests_are are texts =
    let merged : IsMerge adds.events (lists_asked 0 asked outputs) = merge_of_asked rests asked outputs old new (omega (arith, few, count)) texts rests_are adds are in
    record {
      merged = merged;
      in_turn = merge_says_same adds.events (lists_asked 0 asked outputs) (omega (arith, few, count, lists_count 0 asked outputs)) merged;
    }
