-- What several streams become when each is recorded under a lane of its own (docs/FORMATS.md, "What is recorded of a
-- stream").
use Rattle.std.specs.Prelude.{◌≡◌, ℕ, ◌<◌, List, [], length, slice_index_or}
use Rattle.packet_codec.specs.declared.event.Event.{Event}
use Rattle.packet_codec.specs.Lanes.{list_of}
use Rattle.worker_lane.specs.Recorded.{HasRecorded}

-- the lists are what is recorded of the streams, the first one under lane 0, the next one under lane 1, and so on
pub record AreRecorded (streams : List (List ℕ)) (lists : List (List Event)) : Type 0 where
  pub count : length lists ≡ length streams
  pub each : (lane : ℕ) → lane < length lists → HasRecorded lane (slice_index_or streams lane []) (list_of lists lane)
