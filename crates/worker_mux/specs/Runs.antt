-- What a run of all lanes adds.
use Rattle.std.specs.Prelude.{◌≡◌, ℕ, ◌<◌, ◌≤◌, ◌+◌, ⊤, Option, Some, None, List, [], ◌∷◌, length, map, slice_index_or, All}
use Rattle.std.specs.List.{AllByRecursion, flat_map}
use Rattle.edge_io.specs.Children.{Output}
use Rattle.edge_io.specs.Disk.{Folder}
use Rattle.edge_io.specs.Seen.{Seen}
use Rattle.edge_io.specs.Steps.{Goes, Grown}
use Rattle.packet_codec.specs.declared.event.Event.{Event}
use Rattle.packet_codec.specs.Canonical.{canonical, IsEvent, Fits}
use Rattle.packet_codec.specs.Lanes.{IsOfLaneBelow, IsMergeOfTold}
use Rattle.worker_lane.specs.Lanes.{lane_number}
use Rattle.worker_lane.specs.declared.lane.Lane.{Lane}
use Rattle.worker_lane.specs.declared.lot.Ending.TheVariants.{NoMemory}
use Rattle.worker_lane.specs.declared.lot.Lot.{Lot}
use Rattle.worker_lane.specs.declared.lot.Lot.TheVariants.{Packet, End}
use Rattle.worker_mux.specs.Callers.{bytes_recorded, pieces_of_lots, calls_of, IsNewTaker, IsOpen, Tape}
use Rattle.worker_mux.specs.Passes.{number_of}
use Rattle.worker_mux.specs.Rule.{lots_of}
use Rattle.worker_mux.specs.Works.{bytes_left, whole, Pairs, IsEntryOf, IsReady}
use Rattle.worker_mux.specs.declared.belt.Belt.{Belt}
use Rattle.worker_mux.specs.declared.knowledge.Parcel.{Parcel}
use Rattle.worker_mux.specs.declared.knowledge.Settled.{Settled}
use Rattle.worker_mux.specs.declared.belt_passes.Taker.{Taker}
use Rattle.worker_mux.specs.declared.work.Work.{Work}

-- the packets among some lots
abbrev pub lot_packets : List Lot → List (List ℕ)
lot_packets [] = []
lot_packets (Packet packet ∷ lots) = packet ∷ lot_packets lots
lot_packets (End how ∷ lots) = lot_packets lots

-- each of the events has a packet, and these packets are those of the lots
pub record AreEventsOfLots (lots : List Lot) (events : List Event) : Type 0 where
  pub packets : lot_packets lots ≡ map canonical events
  pub are_events : All IsEvent events
  pub fit : All Fits events

-- where the events are told, so are the lots, and these are their packets
abbrev pub AreEventsOf : Option (List Lot) → Option (List Event) → Type 0
AreEventsOf lots None = ⊤
AreEventsOf None (Some events) = ⊥
AreEventsOf (Some lots) (Some events) = AreEventsOfLots lots events

-- the same of each lane
pub record HaveEvents (rests : List (Option (List Lot))) (lists : List (Option (List Event))) : Type 0 where
  pub count : length lists ≡ length rests
  pub each : (lane : ℕ) → lane < length rests → AreEventsOf (slice_index_or rests lane None) (slice_index_or lists lane None)

-- Behind the run stand the packets of events, each of one of the lanes. Of each lane whose events are told they are these,
-- all of them, once and in order.
pub record AddsMerge (rests : List (Option (List Lot))) (old new : Option Folder) : Type 0 where
  pub events : List Event
  pub added : Goes old new (Grown (flat_map canonical events))
  pub are_events : All IsEvent events
  pub fit : All Fits events
  pub of_lanes : All (IsOfLaneBelow (length rests)) events
  pub merged : (lists : List (Option (List Event))) → HaveEvents rests lists → IsMergeOfTold events lists

-- The same of a merge that was heard as it was added, in pieces of whole packets. At most one call of the folder was made
-- for each packet.
pub record HearsMerge (hears : List (List ℕ) → Type 0) (rests : List (Option (List Lot))) (old new : Tape) : Type 0 where
  pub merge : AddsMerge rests old.folder.told new.folder.told
  pub groups : List (List Event)
  pub parts : flat_map (λ group. group) groups ≡ merge.events
  pub heard : hears (map (flat_map canonical) groups)
  pub few : new.clock ≤ old.clock + length merge.events

-- nothing was taken, each work is ready, there is a flag for each, and there is a run to add to
pub record IsRunBegun {C : Type 0} (belt : Belt) (taker : Taker) (works : List (Work C)) (flags : ℕ) (t : Tape) : Type 0 where
  pub taker_new : IsNewTaker belt taker
  pub ready : AllByRecursion (IsReady belt) works
  pub enough : length works ≤ flags
  pub is_open : IsOpen t

module _ {C : Type 0} (seen : C → Seen Output) where
  -- a lane's number, and the bytes of all lots of its work
  abbrev pub share : Work C → ℕ × Option (List ℕ)
  share work = (number_of work.pass, whole seen work)

  -- the same of a lane whose work has not begun
  abbrev pub first_share : Lane C → ℕ × Option (List ℕ)
  first_share lane = (lane_number lane, bytes_left seen lane)

  -- With no lack of memory: what was taken was heard and has been added, by at most one call of the folder for each lot, and
  -- the settled table, which has each work, accounts for it.
  pub record IsRunRecorded (hears : List (List ℕ) → Type 0) (count : ℕ) (works : List (Work C)) (old new : Tape) : Type 0 where
    pub taken : List Parcel
    pub table : List Settled
    pub heard : hears (pieces_of_lots taken)
    pub added : Goes old.folder.told new.folder.told (Grown (bytes_recorded taken))
    pub few : new.clock ≤ old.clock + calls_of taken
    pub entries : Pairs (IsEntryOf seen) works table
    pub accounts : AllByRecursion (λ s. lots_of s.lane taken ≡ s.list) table
    pub well : AllByRecursion (λ p. p.lot ≡ End NoMemory → ⊥) taken
    pub of_lanes : AllByRecursion (λ p. p.lane < count) taken
