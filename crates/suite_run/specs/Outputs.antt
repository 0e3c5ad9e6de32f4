-- What is recorded of the children of a run, where these tell (docs/FORMATS.md, "What a lane gives").
use Rattle.std.specs.Prelude.{ℕ, Option, List}
use Rattle.std.specs.List.{flat_map}
use Rattle.edge_io.specs.Children.{Output}
use Rattle.edge_io.specs.Disk.{Folder}
use Rattle.edge_io.specs.Steps.{Goes, Grown}
use Rattle.packet_codec.specs.Canonical.{canonical}
use Rattle.packet_codec.specs.Lanes.{IsMerge}
use Rattle.packet_codec.specs.declared.event.Event.{Event}
use Rattle.stream_reader.specs.Notes.{HasEvents}
use Rattle.worker_mux.specs.Outputs.{lists_asked}

-- Behind the draft stand the packets of events, which are those of the outputs, merged: the first output is recorded under
-- lane 0, the next one under lane 1, and so on. Read as a stream, the packets are these events. The jobs of
-- the children name these ids.
pub record AddsMergedOutputs (asked : List (List (List ℕ))) (outputs : List Output) (old new : Option Folder) : Type 0 where
  pub events : List Event
  pub added : Goes old new (Grown (flat_map canonical events))
  pub merge : IsMerge events (lists_asked 0 asked outputs)
  pub told : HasEvents (flat_map canonical events) events
