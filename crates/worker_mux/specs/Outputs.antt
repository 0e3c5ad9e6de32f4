-- What is recorded of children that tell what they have left and how they finish.
use Rattle.std.specs.Prelude.{ℕ, suc, Option, List, [], ◌∷◌, ◌++◌, slice_index_or}
use Rattle.std.specs.Option.{option_map}
use Rattle.std.specs.List.{All, AllByRecursion, flat_map}
use Rattle.edge_io.specs.Children.{Output}
pub use Rattle.edge_io.specs.Children.{IsOutput}
use Rattle.edge_io.specs.Disk.{Folder}
use Rattle.edge_io.specs.Steps.{Goes, Grown}
use Rattle.packet_codec.specs.declared.event.Event.{Event}
use Rattle.packet_codec.specs.Canonical.{canonical, IsEvent, Fits}
use Rattle.packet_codec.specs.Lanes.{IsMerge, IsMergeOfTold}
use Rattle.worker_lane.specs.Endings.{ending_of}
use Rattle.worker_lane.specs.Lost.{named_ids, AreShortIds}
use Rattle.worker_lane.specs.Rest.{stream_events, last_events, lots_asked}
use Rattle.worker_lane.specs.declared.lot.Lot.{Lot}

-- the events of an output under a lane whose job names these ids: those that are recorded of its bytes, and those behind them
abbrev pub events_asked : (lane : ℕ) → (ids : List (List ℕ)) → Output → List Event
events_asked lane ids output =
    stream_events lane output.bytes
    ++ last_events lane (named_ids ids) (stream_events lane output.bytes) (ending_of output.finish)

-- the same of a job that names none
abbrev pub events_for : (lane : ℕ) → Output → List Event
events_for lane output = events_asked lane [] output

-- the ids of the first of several jobs; none, where the list ends
abbrev pub first_ids : (asked : List (List (List ℕ))) → List (List ℕ)
first_ids [] = []
first_ids (ids ∷ others) = ids

-- and those of the others
abbrev pub other_ids : (asked : List (List (List ℕ))) → List (List (List ℕ))
other_ids [] = []
other_ids (ids ∷ others) = others

-- the ids of the job at this place
abbrev pub ids_at : (asked : List (List (List ℕ))) → (place : ℕ) → List (List ℕ)
ids_at asked place = slice_index_or asked place []

-- each of them is a text
abbrev pub AreAllTexts : (asked : List (List (List ℕ))) → Type 0
AreAllTexts asked = AllByRecursion AreShortIds asked

-- What lanes over these children have to give, where it is told: the first one is of this number, and each is one higher.
-- Their jobs name these ids.
abbrev pub lots_asked_from : (lane : ℕ) → (asked : List (List (List ℕ))) → List (Option Output) → List (Option (List Lot))
lots_asked_from lane asked [] = []
lots_asked_from lane asked (told ∷ others) = option_map (lots_asked lane (first_ids asked)) told ∷ lots_asked_from (suc lane) (other_ids asked) others

-- the same of jobs that name none
abbrev pub lots_from : (lane : ℕ) → List (Option Output) → List (Option (List Lot))
lots_from lane told = lots_asked_from lane [] told

-- their events, where they are told
abbrev pub events_of_outputs : (lane : ℕ) → (asked : List (List (List ℕ))) → List (Option Output) → List (Option (List Event))
events_of_outputs lane asked [] = []
events_of_outputs lane asked (told ∷ others) = option_map (events_asked lane (first_ids asked)) told ∷ events_of_outputs (suc lane) (other_ids asked) others

-- the same where all are told
abbrev pub lists_asked : (lane : ℕ) → (asked : List (List (List ℕ))) → List Output → List (List Event)
lists_asked lane asked [] = []
lists_asked lane asked (output ∷ others) = events_asked lane (first_ids asked) output ∷ lists_asked (suc lane) (other_ids asked) others

-- the same of jobs that name none
abbrev pub lists_from : (lane : ℕ) → List Output → List (List Event)
lists_from lane outputs = lists_asked lane [] outputs

-- Behind the run stand the packets of events, which are those of the outputs, merged. The first output is of lane 0, and
-- the jobs name these ids.
pub record AddsTold (asked : List (List (List ℕ))) (told : List (Option Output)) (old new : Option Folder) : Type 0 where
  pub events : List Event
  pub added : Goes old new (Grown (flat_map canonical events))
  pub are_events : All IsEvent events
  pub fit : All Fits events
  pub merge : IsMergeOfTold events (events_of_outputs 0 asked told)

-- the same where all are told
pub record AddsOutputs (asked : List (List (List ℕ))) (outputs : List Output) (old new : Option Folder) : Type 0 where
  pub events : List Event
  pub added : Goes old new (Grown (flat_map canonical events))
  pub are_events : All IsEvent events
  pub fit : All Fits events
  pub merge : IsMerge events (lists_asked 0 asked outputs)
