-- The work of a lane: the lane, its pass, and at most one lot that the belt handed back.
use Rattle.std.specs.Prelude.{◌≡◌, ℕ, List, [], ◌∷◌, ◌++◌, Option, IfSome, Bool, false, ⊤}
use Rattle.std.specs.Option.{option_map, option_to_list}
use Rattle.std.specs.List.{AllByRecursion, flat_map}
use Rattle.packet_codec.specs.Grammar.{AreBytes}
use Rattle.edge_io.specs.Children.{Output}
use Rattle.edge_io.specs.Seen.{Seen}
use Rattle.packet_codec.specs.declared.event.Event.{Event}
use Rattle.packet_codec.specs.Canonical.{canonical}
use Rattle.worker_lane.specs.Lanes.{rest, lane_number}
use Rattle.worker_lane.specs.Rest.{IsEventOf}
use Rattle.worker_lane.specs.declared.lane.Lane.{Lane}
use Rattle.worker_lane.specs.declared.lot.Ending.TheVariants.{NoMemory}
use Rattle.worker_lane.specs.declared.lot.Lot.{Lot}
use Rattle.worker_lane.specs.declared.lot.Lot.TheVariants.{Packet, End}
use Rattle.worker_mux.specs.Callers.{packet_of}
use Rattle.worker_mux.specs.Passes.{number_of, lots_put, IsPassFor}
use Rattle.worker_mux.specs.declared.belt.Belt.{Belt}
use Rattle.worker_mux.specs.declared.knowledge.Settled.{Settled}
use Rattle.worker_mux.specs.declared.belt_passes.LanePass.{LanePass}
use Rattle.worker_mux.specs.declared.work.Work.{Work}
use Rattle.worker_mux.specs.declared.work.Outcome.{Outcome}
use Rattle.worker_mux.specs.declared.work.Outcome.TheVariants.{Kept, Put, GivenUp}

-- packets have bytes
abbrev pub IsLotOfBytes : Lot → Type 0
IsLotOfBytes (Packet packets) = AreBytes packets
IsLotOfBytes (End how) = ⊤

-- these are the packets of events under the lane
pub record ArePacketsUnder (lane : ℕ) (packets : List ℕ) : Type 0 where
  pub events : List Event
  pub packets_are : packets ≡ flat_map canonical events
  pub under : AllByRecursion (IsEventOf lane) events

-- the packets of a lot are under the lane
abbrev pub AreOwn : (lane : ℕ) → Lot → Type 0
AreOwn lane (Packet packets) = ArePacketsUnder lane packets
AreOwn lane (End how) = ⊤

-- the packets of a lot are under the lane, and each number in them is a byte
abbrev pub IsOwn : (lane : ℕ) → Lot → Type 0
IsOwn lane lot = AreOwn lane lot × IsLotOfBytes lot

-- the packets among some lots, joined
abbrev pub joined_packets : List Lot → List ℕ
joined_packets lots = flat_map packet_of lots

-- no lot says that there was no memory
abbrev pub AllWell : List Lot → Type 0
AllWell lots = AllByRecursion (λ lot. lot ≡ End NoMemory → ⊥) lots

-- a pass of this belt, which has put packets under its lane alone
pub record IsOwnPass (belt : Belt) (pass : LanePass) : Type 0 where
  pub made_here : IsPassFor belt pass
  pub own : AllByRecursion (IsOwn (number_of pass)) (lots_put pass)

module _ {C : Type 0} where
  -- the pass is the lane's, and all that it gave is under the lane
  pub record IsReady (belt : Belt) (work : Work C) : Type 0 where
    pub pass : IsOwnPass belt work.pass
    pub number : lane_number work.lane ≡ number_of work.pass
    pub kept : IfSome work.kept (IsOwn (number_of work.pass))

  -- the same of what a thread hands back: work that goes on is ready, and a pass has put packets under its lane alone
  abbrev pub IsReadyOutcome : Belt → Outcome C → Type 0
  IsReadyOutcome belt (Kept work) = IsReady belt work
  IsReadyOutcome belt (Put pass) = IsOwnPass belt pass
  IsReadyOutcome belt (GivenUp pass) = IsOwnPass belt pass

  -- the lots that the lane gave: those that were put, and the one that was handed back
  abbrev pub lots_given : Work C → List Lot
  lots_given work = lots_put work.pass ++ option_to_list work.kept

-- R holds of what stands at the same place in two lists, which are as long
abbrev pub Pairs : {X Y : Type 0} → (X → Y → Type 0) → List X → List Y → Type 0
Pairs R [] [] = ⊤
Pairs R [] (y ∷ ys) = ⊥
Pairs R (x ∷ xs) [] = ⊥
Pairs R (x ∷ xs) (y ∷ ys) = R x y × Pairs R xs ys

module _ {C : Type 0} (seen : C → Seen Output) where
  -- The packets of a lane are joined to larger lots as they come, so what is told of a work are their bytes.
  -- The bytes of what the lane has still to give, where its child tells.
  abbrev pub bytes_left : Lane C → Option (List ℕ)
  bytes_left lane = option_map joined_packets (rest seen lane)

  -- those of what has not been put: the lot that was handed back, and what the lane has still to give
  abbrev pub left : Work C → Option (List ℕ)
  left work = option_map (λ l. joined_packets (option_to_list work.kept) ++ l) (bytes_left work.lane)

  -- those of all lots of a work: what was put, and what was not
  abbrev pub whole : Work C → Option (List ℕ)
  whole work = option_map (λ l. joined_packets (lots_put work.pass) ++ l) (left work)

  -- all packets of a work are put, unless memory ran out in its lane
  pub record IsPut (work : Work C) (pass : LanePass) : Type 0 where
    pub number : number_of pass ≡ number_of work.pass
    pub well : AllWell (lots_put pass) → AllWell (lots_given work)
    pub all : AllWell (lots_put pass) → IfSome (whole work) (λ l. joined_packets (lots_put pass) ≡ l)

  -- the work goes on: unless memory ran out in its lane, its packets are what they were
  pub record KeepsWork (before after : Work C) : Type 0 where
    pub number : number_of after.pass ≡ number_of before.pass
    pub well : AllWell (lots_given after) → AllWell (lots_given before)
    pub same : AllWell (lots_given after) → whole after ≡ whole before

  -- what driving leads to
  abbrev pub Drives : Work C → Outcome C → Type 0
  Drives before (Kept after) = KeepsWork before after
  Drives before (Put pass) = IsPut before pass
  Drives before (GivenUp pass) = number_of pass ≡ number_of before.pass

  -- what a thread hands back, whatever belt its work is of
  pub record IsDriven (before : Work C) (outcome : Outcome C) : Type 0 where
    pub ready : (belt : Belt) → IsReady belt before → IsReadyOutcome belt outcome
    pub drives : Drives before outcome

  -- what the taker's table has of a work: all its packets, unless memory ran out in its lane
  pub record IsEntryOf (work : Work C) (entry : Settled) : Type 0 where
    pub lane : entry.lane ≡ number_of work.pass
    pub own : AllByRecursion (IsOwn entry.lane) entry.list
    pub list : AllWell entry.list → IfSome (whole work) (λ l. joined_packets entry.list ≡ l)

  -- The table is one entry longer for each work, in order. Where the lanes were stopped, nothing is said of them.
  abbrev pub Settles : Bool → List (Work C) → List Settled → List Settled → Type 0
  Settles stopped works old new = (table : List Settled) × (new ≡ table ++ old) × (stopped ≡ false → Pairs IsEntryOf works table)
