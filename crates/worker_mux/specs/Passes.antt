-- What clauses see of the belt, of its passes and of its taker.
use Rattle.std.specs.Prelude.{◌≡◌, ℕ, List, [], ◌∷◌}
use Rattle.crossbeam_queue.specs.Passes.{view, IsPassOf, ruled_capacity}
use Rattle.worker_lane.specs.declared.lot.Lot.{Lot}
use Rattle.worker_mux.specs.declared.belt.Belt.{Belt}
use Rattle.worker_mux.specs.declared.knowledge.Parcel.{Parcel}
use Rattle.worker_mux.specs.declared.knowledge.Settled.{Settled}
use Rattle.worker_mux.specs.declared.belt_passes.LanePass.{LanePass}
use Rattle.worker_mux.specs.declared.belt_passes.Taker.{Taker}
use Rattle.worker_mux.specs.Rule.{put_of, taken_of, settled_of, count_of, IsLane, IsTaker, TakerLearns, FirstPartsTaken, AllTaken, OfLanes}

-- how many lots the belt may hold
abbrev pub room_of : Belt → ℕ
room_of belt = ruled_capacity belt.queue

-- the number of the lane that a pass is of
abbrev pub number_of : LanePass → ℕ
number_of pass = pass.number

-- the lots that a pass has put on the belt, in order
abbrev pub lots_put : LanePass → List Lot
lots_put pass = put_of (view pass.pass)

-- how many lanes there are, by what the taker knows
abbrev pub lane_count : Taker → ℕ
lane_count taker = count_of (view taker.pass)

-- the lots of all lanes that the taker has taken from the belt, each with its lane, in order
abbrev pub lots_taken : Taker → List Parcel
lots_taken taker = taken_of (view taker.pass)

-- the taker's table of settled lanes, each with the lots that its pass put; the lane that settled last stands first
abbrev pub settled_lanes : Taker → List Settled
settled_lanes taker = settled_of (view taker.pass)

-- a pass of this belt, of its lane
pub record IsPassFor (belt : Belt) (pass : LanePass) : Type 0 where
  pub made_here : IsPassOf belt.queue pass.pass
  pub lane : IsLane pass.number (view pass.pass)

-- the taker of this belt
pub record IsTakerFor (belt : Belt) (taker : Taker) : Type 0 where
  pub made_here : IsPassOf belt.queue taker.pass
  pub reads : IsTaker (view taker.pass)

-- a pass of this belt that has put nothing
pub record IsFresh (belt : Belt) (pass : LanePass) : Type 0 where
  pub ready : IsPassFor belt pass
  pub empty : lots_put pass ≡ []

-- what the table of settled lanes has of a pass
abbrev pub settled_pass : LanePass → Settled
settled_pass pass = record { lane = pass.number; list = lots_put pass }

-- at a step of the call the lot left the belt's front
abbrev pub LeftFront : Taker → Parcel → Taker → Type 0
LeftFront before parcel after = (items : List Parcel) × TakerLearns (view before.pass) (parcel ∷ items) × TakerLearns (view after.pass) items

-- at a step of the call the rule held, and the taker knew what it shows
abbrev pub WasAtStep : Taker → Type 0
WasAtStep taker = (items : List Parcel) × TakerLearns (view taker.pass) items

-- of each settled lane, what was taken is a first part of its list
abbrev pub HasFirstParts : Taker → Type 0
HasFirstParts taker = FirstPartsTaken (view taker.pass)

-- of each settled lane, what was taken is its list
abbrev pub HasAll : Taker → Type 0
HasAll taker = AllTaken (view taker.pass)

-- each lot that was taken is of one of the lanes
abbrev pub IsOfLanes : Taker → Type 0
IsOfLanes taker = OfLanes (view taker.pass)
