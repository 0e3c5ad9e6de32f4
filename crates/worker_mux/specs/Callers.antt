-- What the one that records has taken, and what it has added to the run.
use Rattle.std.specs.Prelude.{◌≡◌, ◌⊎◌, ℕ, ◌≤◌, ◌+◌, List, [], ◌∷◌, ◌++◌, true, false, Option, Some, None}
use Rattle.std.specs.List.{AllByRecursion}
use Rattle.edge_io.specs.Causes.{Rose}
use Rattle.edge_io.specs.Disk.{Folder}
use Rattle.edge_io.specs.Seen.{Seen}
use Rattle.edge_io.specs.Steps.{Goes, Grown, HasDraft}
use Rattle.packet_codec.specs.Lanes.{joined}
use Rattle.packet_codec.specs.Packets.{ArePackets}
use Rattle.run_shelf.specs.Drafts.{SameButDraft}
use Rattle.run_shelf.specs.declared.faults.ShelfCall.{ShelfCall}
use Rattle.run_shelf.specs.declared.faults.ShelfCall.TheVariants.{Append}
use Rattle.worker_lane.specs.declared.lot.Ending.TheVariants.{NoMemory}
use Rattle.worker_lane.specs.declared.lot.Lot.{Lot}
use Rattle.worker_lane.specs.declared.lot.Lot.TheVariants.{Packet, End}
use Rattle.worker_mux.specs.Passes.{lane_count, lots_taken, settled_lanes, IsTakerFor}
use Rattle.worker_mux.specs.declared.belt.Belt.{Belt}
use Rattle.worker_mux.specs.declared.caller.Caller.{Caller}
use Rattle.worker_mux.specs.declared.knowledge.Parcel.{Parcel}
use Rattle.worker_mux.specs.declared.belt_passes.Taker.{Taker}

-- what is heard of a lot: its packets as one piece, and nothing of a lane's end
abbrev pub pieces_of_lot : Lot → List (List ℕ)
pieces_of_lot (Packet packet) = packet ∷ []
pieces_of_lot (End how) = []

-- what is heard of all lots that were taken, in the order in which they were taken
abbrev pub pieces_of_lots : List Parcel → List (List ℕ)
pieces_of_lots [] = []
pieces_of_lots (p ∷ ps) = pieces_of_lot p.lot ++ pieces_of_lots ps

-- Its taker is this belt's. Until the lanes are stopped no lane's memory has run out, and what was taken was heard since the
-- listener was what it was begun with.
pub record IsCaller {L : Type 0} (hears : L → L → List (List ℕ) → Type 0) (belt : Belt) (caller : Caller L) : Type 0 where
  pub taker : IsTakerFor belt caller.taker
  pub well : caller.stopped ≡ false → AllByRecursion (λ p. p.lot ≡ End NoMemory → ⊥) (lots_taken caller.taker)
  pub heard : caller.stopped ≡ false → hears caller.begun.value caller.listener (pieces_of_lots (lots_taken caller.taker))

-- a taker that has taken nothing, and knows of no lane that is settled
pub record IsNewTaker (belt : Belt) (taker : Taker) : Type 0 where
  pub made_here : IsTakerFor belt taker
  pub nothing : lots_taken taker ≡ []
  pub none_settled : settled_lanes taker ≡ []

-- what is recorded of a lot: the bytes of its packets, and none of a lane's end
abbrev pub packet_of : Lot → List ℕ
packet_of (Packet packet) = packet
packet_of (End how) = []

-- what is recorded of all lots that were taken, as the bytes that stand behind the run
abbrev pub bytes_recorded : List Parcel → List ℕ
bytes_recorded [] = []
bytes_recorded (p ∷ ps) = packet_of p.lot ++ bytes_recorded ps

-- how many calls of the folder it takes to add these bytes: one, and none where there are none
abbrev pub calls_for : List ℕ → ℕ
calls_for [] = 0
calls_for (byte ∷ bytes) = 1

-- the same of all that was taken, each lot by a call of its own
abbrev pub calls_of : List Parcel → ℕ
calls_of [] = 0
calls_of (p ∷ ps) = calls_for (packet_of p.lot) + calls_of ps

-- what is seen of a run that is added to: the call of the folder that failed, the folder, and how many calls of it there were
pub record Tape : Type 0 where
  pub fault : Option ShelfCall
  pub folder : Seen Folder
  pub clock : ℕ

-- the tape of which this fault, this folder and this count of calls are seen
abbrev pub tape : Option ShelfCall → Seen Folder → ℕ → Tape
tape fault folder clock = record { fault = fault; folder = folder; clock = clock }

-- until a call has failed, there is a run to add to
pub record IsOpen (t : Tape) : Type 0 where
  pub draft : t.fault ≡ None → HasDraft t.folder.told

-- Nothing but the run has changed. A fault stays, and one comes exactly where an `append` failed.
pub record KeepsTape (old new : Tape) : Type 0 where
  pub files : Goes old.folder.told new.folder.told SameButDraft
  pub is_open : IsOpen old → IsOpen new
  pub stays : (call : ShelfCall) → old.fault ≡ Some call → new.fault ≡ Some call
  pub later : old.folder.faults ≤ new.folder.faults
  pub rose : old.fault ≡ None → (call : ShelfCall) → new.fault ≡ Some call → (call ≡ Append) × Rose old.folder.faults new.folder.faults
  pub stands : new.fault ≡ old.fault → new.folder.faults ≡ old.folder.faults

-- with no fault, what was taken has been added, from `start` on
abbrev pub HasAdded : {L : Type 0} → Option Folder → Caller L → Tape → Type 0
HasAdded start caller t = t.fault ≡ None → Goes start t.folder.told (Grown (bytes_recorded (lots_taken caller.taker)))

-- from so many calls of the folder on, what was taken took no more than it takes to add each lot of it
abbrev pub IsCounted : {L : Type 0} → (first : ℕ) → Caller L → Tape → Type 0
IsCounted first caller t = t.clock ≤ first + calls_of (lots_taken caller.taker)

-- These pieces were handed on, and this holds of what has heard them. They were added to the run, from `start` on, and
-- behind them nothing, or a part of one more where a call failed.
pub record WasHanded (Holds : List (List ℕ) → Type 0) (start : Option Folder) (t : Tape) : Type 0 where
  pub pieces : List (List ℕ)
  pub packets : AllByRecursion ArePackets pieces
  pub part : List ℕ
  pub added : Goes start t.folder.told (Grown (joined pieces ++ part))
  pub whole : t.fault ≡ None → part ≡ []
  pub holds : Holds pieces

-- the listener has heard these pieces, or wanted memory at the last of them
abbrev pub HeardOrKept : {L : Type 0} (hears keeps : L → L → List (List ℕ) → Type 0) → (begun listener : L) → List (List ℕ) → Type 0
HeardOrKept hears keeps begun listener pieces = hears begun listener pieces ⊎ keeps begun listener pieces

-- the same of the one that records, whose lanes are stopped where memory was wanted
abbrev pub StandsBy : {L : Type 0} (hears keeps : L → L → List (List ℕ) → Type 0) → Caller L → List (List ℕ) → Type 0
StandsBy hears keeps caller pieces = hears caller.begun.value caller.listener pieces ⊎ ((caller.stopped ≡ true) × keeps caller.begun.value caller.listener pieces)

-- the run grew by the bytes, or by a part of them where a call failed
pub record AddsPart (bytes : List ℕ) (old new : Tape) : Type 0 where
  pub part : List ℕ
  pub added : Goes old.folder.told new.folder.told (Grown part)
  pub whole : new.fault ≡ None → part ≡ bytes

-- The lanes stay as many, what the listener was begun with is the same, what was taken stays added, and its calls counted.
-- The listener was handed what was added.
pub record GoesOn {L : Type 0} (hears kept : L → L → List (List ℕ) → Type 0) (before after : Caller L) (old new : Tape) : Type 0 where
  pub count : lane_count after.taker ≡ lane_count before.taker
  pub begun : after.begun ≡ before.begun
  pub going : after.stopped ≡ false → before.stopped ≡ false
  pub keeps : KeepsTape old new
  pub added : (start : Option Folder) → HasAdded start before old → HasAdded start after new
  pub counted : (first : ℕ) → IsCounted first before old → IsCounted first after new
  pub handed : (start : Option Folder) → WasHanded (StandsBy hears kept before) start old → WasHanded (StandsBy hears kept after) start new
