-- How the course of a lane goes on.
use Rattle.std.specs.Prelude.{◌≡◌, ◌⊎◌, ℕ, ◌≤◌, true, List, [], ◌∷◌, ◌++◌, length, map}
use Rattle.edge_io.specs.Children.{Output}
use Rattle.packet_codec.specs.Canonical.{canonical}
use Rattle.packet_codec.specs.Grammar.{AreBytes}
use Rattle.stream_reader.specs.Room.{most_held}
use Rattle.worker_lane.specs.Endings.{ending_events, IsPacketOf}
use Rattle.worker_lane.specs.Rest.{Coursing, events_left, lots}
use Rattle.worker_lane.specs.declared.lot.Ending.{Ending}
use Rattle.worker_lane.specs.declared.lot.Ending.TheVariants.{Fault}
use Rattle.worker_lane.specs.declared.lot.Lot.TheVariants.{Packet, End}
use Rattle.worker_lane.specs.declared.lane_stage.Stage.TheVariants.{Reading, Closing}

-- the lane, the stage and the mark stay
pub record KeepsCourse (before after : Coursing) : Type 0 where
  pub lane : after.scribe.lane ≡ before.scribe.lane
  pub stage : after.stage ≡ before.stage
  pub failed : after.failed ≡ before.failed

-- the lane and the mark stay
pub record KeepsLaneAndMark (before after : Coursing) : Type 0 where
  pub lane : after.scribe.lane ≡ before.scribe.lane
  pub failed : after.failed ≡ before.failed

-- a packet of the lane was given, which stood at the front of what was left
pub record GivesHeard (before : Coursing) (packet : List ℕ) (after : Coursing) : Type 0 where
  pub under : IsPacketOf before.scribe.lane packet
  pub reading : before.stage ≡ Reading → (output : Output) → AreBytes output.bytes → lots before output ≡ Packet packet ∷ lots after output
  pub closing : (how : Ending) → before.stage ≡ Closing how → (output other : Output) → lots before output ≡ Packet packet ∷ lots after other

-- nothing is recorded of the bytes that were fed: more are needed, or all was given
pub record HasNoneHeard (before : Coursing) : Type 0 where
  pub reading : before.stage ≡ Reading → length before.scribe.held.bytes ≤ most_held
  pub closing : (how : Ending) → before.stage ≡ Closing how → events_left before.scribe [] ≡ []

-- the packet was given of the first of the ids that were lost
pub record GivesLost (before : Coursing) (how : Ending) (packet : List ℕ) (after : Coursing) : Type 0 where
  pub under : IsPacketOf before.scribe.lane packet
  pub left : events_left before.scribe [] ≡ [] → (output other : Output) → lots before output ≡ Packet packet ∷ lots after other

-- no id is left that was lost: only the end is left
abbrev pub HasNoneLost : Coursing → (how : Ending) → Type 0
HasNoneLost before how = events_left before.scribe [] ≡ [] → (output : Output) → lots before output ≡ map Packet (map canonical (ending_events before.scribe.lane how)) ++ End how ∷ []

-- it comes to its end, and a fault is marked
pub record EndsCourse (before : Coursing) (how : Ending) (after : Coursing) : Type 0 where
  pub lane : after.scribe.lane ≡ before.scribe.lane
  pub stage : after.stage ≡ Closing how
  pub stays : before.failed ≡ true → after.failed ≡ true
  pub mark : after.failed ≡ true → (before.failed ≡ true) ⊎ (how ≡ Fault)
