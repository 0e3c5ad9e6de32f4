-- What is recorded of the outputs of a run's children.
use Rattle.std.proofs.Common.{◌≡◌, ℕ, suc, ◌≤◌, List, [], ◌∷◌, length, Option, refl, ◌∙◌, ap, arith}
use Rattle.edge_io.specs.Children.{Output}
use Rattle.edge_io.specs.Disk.{Folder}
use Rattle.edge_io.specs.Spawners.{Spawning}
use Rattle.edge_io.specs.declared.job.Job.{Job}
use Rattle.suite_run.specs.Outputs.{AddsMergedOutputs}
use Rattle.suite_run.specs.Starting.{HasStarted}
use Rattle.worker_lane.specs.declared.lot.Lot.{Lot}
use Rattle.worker_lane.proofs.RecordedLaneLemmas.{read_again}
use Rattle.worker_mux.specs.Outputs.{other_ids, lists_asked, AddsOutputs}
use Rattle.worker_mux.specs.Runs.{AddsMerge}
use Rattle.worker_mux.proofs.OutputLemmas.{adds_outputs}

length_lists : (lane : ℕ) (asked : List (List (List ℕ))) (outputs : List Output) → length (lists_asked lane asked outputs) ≡ length outputs
length_lists lane asked [] = refl
length_lists lane asked (output ∷ outputs) = ap suc (length_lists (suc lane) (other_ids asked) outputs)

pub lists_count : (jobs : List Job) (asked : List (List (List ℕ))) (rests : List (Option (List Lot))) (s t : Spawning) → (started : HasStarted jobs asked rests s t) → length (lists_asked 0 asked started.outputs) ≡ length jobs
lists_count jobs asked rests s t started = length_lists 0 asked started.outputs ∙ started.all.count

pub run_added : (jobs : List Job) (asked : List (List (List ℕ))) (rests : List (Option (List Lot))) (s t : Spawning) (old new : Option Folder) → length jobs ≤ 64 → (started : HasStarted jobs asked rests s t) → AddsMerge rests old new → AddsMergedOutputs asked started.outputs old new
run_added jobs asked rests s t old new few started adds =
    let outputs : List Output = started.outputs in
    let added : AddsOutputs asked outputs old new = adds_outputs rests asked outputs old new (omega (arith, few, started.all.count)) started.texts started.are_outputs started.rests_are adds in
    record { events = added.events; added = added.added; merge = added.merge; told = read_again added.events added.are_events added.fit }
