-- What contracts see of a lane (docs/FORMATS.md, "What a lane gives").
use Rattle.std.specs.Prelude.{◌≡◌, ◌⊎◌, ℕ, ◌≤◌, Bool, true, Option, List, [], ◌∷◌, ◌++◌, length}
use Rattle.std.specs.Option.{option_map}
use Rattle.edge_io.specs.Causes.{Rose}
use Rattle.edge_io.specs.Children.{Output}
use Rattle.edge_io.specs.Seen.{Seen}
use Rattle.worker_lane.specs.Endings.{IsPacketOf}
use Rattle.worker_lane.specs.Rest.{Coursing, GivesIfTold, lots}
use Rattle.worker_lane.specs.declared.lane.Lane.{Lane}
use Rattle.worker_lane.specs.declared.lot.Lot.{Lot}
use Rattle.worker_lane.specs.declared.lot.Lot.TheVariants.{Packet}
use Rattle.worker_lane.specs.declared.lane_stage.Stage.TheVariants.{Over}

-- the lots that are left, where the child tells what it has left and how it finishes
abbrev pub course_rest : Coursing → Option Output → Option (List Lot)
course_rest course told = option_map (lots course) told

-- The lane's number stays, its child's count of faults never falls, and a mark stays, and comes only where that count
-- rose.
pub record KeepsNumber (before after : Coursing) (count now : ℕ) : Type 0 where
  pub number : after.scribe.lane ≡ before.scribe.lane
  pub later : count ≤ now
  pub stays : before.failed ≡ true → after.failed ≡ true
  pub mark : after.failed ≡ true → (before.failed ≡ true) ⊎ Rose count now

module _ {C : Type 0} where
  -- the lots that the lane has still to give, where its child tells
  abbrev pub rest : (seen : C → Seen Output) → Lane C → Option (List Lot)
  rest seen lane = course_rest lane.course (seen lane.child).told

  -- the lane's number, under which its events are recorded
  abbrev pub lane_number : Lane C → ℕ
  lane_number lane = lane.course.scribe.lane

  -- a read of the child or the wait for it failed
  abbrev pub lane_failed : Lane C → Bool
  lane_failed lane = lane.course.failed

  -- how often a call of its child has failed
  abbrev pub lane_faults : (seen : C → Seen Output) → Lane C → ℕ
  lane_faults seen lane = (seen lane.child).faults

  -- how many bytes it holds of which no note was taken
  abbrev pub lane_held : Lane C → ℕ
  lane_held lane = length lane.course.scribe.held.bytes

  -- it has given its end
  abbrev pub IsPast : Lane C → Type 0
  IsPast lane = lane.course.stage ≡ Over

  -- the packet at the front of what is left was appended, and the others are left
  pub record AppendsPacket (seen : C → Seen Output) (before : Lane C) (old : List ℕ) (after : Lane C) (new : List ℕ) : Type 0 where
    pub packet : List ℕ
    pub appended : new ≡ old ++ packet
    pub under : IsPacketOf (lane_number before) packet
    pub left : GivesIfTold (rest seen before) (Packet packet ∷ []) (rest seen after)

  -- the same of a lane, where its child is seen before and after
  abbrev pub KeepsLane : (seen : C → Seen Output) → Lane C → Lane C → Type 0
  KeepsLane seen before after = KeepsNumber before.course after.course (seen before.child).faults (seen after.child).faults
