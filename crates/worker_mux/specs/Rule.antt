-- The rule of the belt, over what it holds and what each of its passes knows. Each step keeps it, in any schedule.
-- The kinds of step, and no other; each changes the view of its own caller and the belt, and the first and the last one
-- the view of the other pass, too:
--     a pass is made       the taker's count grows, and a lane begins (with_lane, new_lane)
--     a packet is put      it comes to the back, and to the end of the pass's list (WasAdded)
--     an end is put        the same
--     a put is refused     nothing changes
--     a lot is taken       the front goes to the end of what was taken (WasTaken)
--     none is taken        nothing changes, and the belt is empty (TakerLearns)
--     a pass is settled    it is spent, and its list goes into the taker's table (with_settled)
use Rattle.std.specs.Prelude.{◌≡◌, ℕ, ◌+◌, ◌<◌, ◌≤◌, List, [], ◌∷◌, ◌++◌, Contains, ◌⊎◌, if◌then◌else◌, ◌==◌}
use Rattle.std.specs.List.{AllByRecursion}
use mathlib.Core.Option.{Option, some, none}
use lib.ListN.{get_elem?}
use Rattle.worker_lane.specs.declared.lot.Lot.{Lot}
use Rattle.worker_mux.specs.Packets.{IsWhole}
use Rattle.worker_mux.specs.declared.knowledge.Parcel.{Parcel}
use Rattle.worker_mux.specs.declared.knowledge.Settled.{Settled}
use Rattle.worker_mux.specs.declared.knowledge.Knowledge.{Knowledge}
use Rattle.worker_mux.specs.declared.knowledge.Knowledge.TheVariants.{Spent, Lane, Taker}

-- the lots of one lane, in order
abbrev pub lots_of : ℕ → List Parcel → List Lot
lots_of n [] = []
lots_of n (p ∷ ps) = if p.lane == n then p.lot ∷ lots_of n ps else lots_of n ps

-- a lane has one holder of its list: a live pass, or an entry of the table of settled lanes
abbrev pub HasHolder : List Knowledge → List Settled → ℕ → List Lot → Option ℕ → Type 0
HasHolder views settled n list seat =
    ((pass : ℕ) × (seat ≡ some pass) × (get_elem? views pass ≡ some (Lane n list)))
    ⊎ ((seat ≡ none) × Contains settled (record { lane = n; list = list }))

-- a settled lane has no live pass, and its entry has its list
abbrev pub IsSettled : ℕ → (ℕ → Option ℕ) → (ℕ → List Lot) → Settled → Type 0
IsSettled count seat sent s = (seat s.lane ≡ none) × (s.list ≡ sent s.lane) × (s.lane < count)

-- no lane has two entries
abbrev pub HasEachOnce : List Settled → Type 0
HasEachOnce [] = Unit {0}
HasEachOnce (s ∷ rest) = AllByRecursion (λ t. t.lane ≡ s.lane → ⊥) rest × HasEachOnce rest

-- what a pass knows is so
abbrev pub Knows : ℕ → ℕ → List Parcel → List Settled → (ℕ → Option ℕ) → (ℕ → List Lot) → ℕ → Knowledge → Type 0
Knows reader count taken settled seat sent pass Spent = Unit {0}
Knows reader count taken settled seat sent pass (Lane n list) = (seat n ≡ some pass) × (list ≡ sent n) × (n < count)
Knows reader count taken settled seat sent pass (Taker c t s) = (pass ≡ reader) × (c ≡ count) × (t ≡ taken) × (s ≡ settled)

-- The belt holds `items`, front first, and `views` are what its passes know. `reader` is the taker's pass, `count` the
-- number of lanes, `taken` and `settled` what the taker shows; `seat` has the live pass of each lane, and `sent` its list.
pub record Whole (items : List Parcel) (views : List Knowledge) (reader count : ℕ) (taken : List Parcel) (settled : List Settled) (seat : ℕ → Option ℕ) (sent : ℕ → List Lot) : Type 0 where
  -- of each lane: what was taken, and then what the belt holds, is its list
  pub each : (n : ℕ) → lots_of n taken ++ lots_of n items ≡ sent n
  -- each lot on the belt is of whole packets
  pub packets : AllByRecursion (λ p. IsWhole p.lot) items
  -- one view is the taker's
  pub reads : get_elem? views reader ≡ some (Taker count taken settled)
  -- each lane has a holder
  pub holders : (n : ℕ) → n < count → HasHolder views settled n (sent n) (seat n)
  -- of what is no lane yet there is no holder and no lot
  pub none_yet : (n : ℕ) → count ≤ n → (seat n ≡ none) × (sent n ≡ [])
  pub table : AllByRecursion (IsSettled count seat sent) settled
  pub once : HasEachOnce settled
  -- every other view is a lane's or spent
  pub known : (pass : ℕ) (v : Knowledge) → get_elem? views pass ≡ some v → Knows reader count taken settled seat sent pass v

-- The rule, which each step keeps: of this belt and these views there are a taker, a table, and a list of each lane,
-- such that all of `Whole` is so.
abbrev pub Kept : List Parcel → List Knowledge → Type 0
Kept items views =
    (reader : ℕ) × (count : ℕ) × (taken : List Parcel) × (settled : List Settled) × (seat : ℕ → Option ℕ) × (sent : ℕ → List Lot)
    × Whole items views reader count taken settled seat sent

-- what the taker knows once a pass is made: there is one lane more
abbrev pub with_lane : Knowledge → Knowledge
with_lane (Taker count taken settled) = Taker (count + 1) taken settled
with_lane v = v

-- what the new pass knows: its lane is of the next number, and nothing was put of it
abbrev pub new_lane : Knowledge → Knowledge
new_lane (Taker count taken settled) = Lane count []
new_lane v = Spent

-- what the taker knows once a pass is settled: the pass's list stands first in the table
abbrev pub with_settled : Knowledge → Knowledge → Knowledge
with_settled (Taker count taken settled) (Lane n list) = Taker count taken (record { lane = n; list = list } ∷ settled)
with_settled v w = v

-- what a lane's pass has put; no other view has put anything
abbrev pub put_of : Knowledge → List Lot
put_of (Lane n list) = list
put_of v = []

-- what the taker has taken, of all lanes, in order
abbrev pub taken_of : Knowledge → List Parcel
taken_of (Taker count taken settled) = taken
taken_of v = []

-- which lanes are settled, by the taker's view; the lane that settled last stands first
abbrev pub settled_of : Knowledge → List Settled
settled_of (Taker count taken settled) = settled
settled_of v = []

-- how many lanes there are, by the taker's view
abbrev pub count_of : Knowledge → ℕ
count_of (Taker count taken settled) = count
count_of v = 0

-- the view is that of the live pass of this lane
abbrev pub IsLane : ℕ → Knowledge → Type 0
IsLane n v = v ≡ Lane n (put_of v)

-- the view is the taker's
abbrev pub IsTaker : Knowledge → Type 0
IsTaker v = v ≡ Taker (count_of v) (taken_of v) (settled_of v)

-- at a step the belt held these lots, front first, one pass knew v, and the rule held
abbrev pub Stood : Knowledge → List Parcel → Type 0
Stood v items = (views : List Knowledge) × (pass : ℕ) × Kept items views × (get_elem? views pass ≡ some v)

-- of each settled lane, what was taken and then what the belt holds is its list
abbrev pub Accounts : Knowledge → List Parcel → Type 0
Accounts v items = AllByRecursion (λ s. lots_of s.lane (taken_of v) ++ lots_of s.lane items ≡ s.list) (settled_of v)

-- of each settled lane, what was taken is a first part of its list
abbrev pub FirstPartsTaken : Knowledge → Type 0
FirstPartsTaken v = AllByRecursion (λ s. (rest : List Lot) × (lots_of s.lane (taken_of v) ++ rest ≡ s.list)) (settled_of v)

-- of each settled lane, what was taken is its list
abbrev pub AllTaken : Knowledge → Type 0
AllTaken v = AllByRecursion (λ s. lots_of s.lane (taken_of v) ≡ s.list) (settled_of v)

-- each lot that was taken is of one of the lanes
abbrev pub OfLanes : Knowledge → Type 0
OfLanes v = AllByRecursion (λ p. p.lane < count_of v) (taken_of v)

-- what the taker, which knew v, learns of a step at which the belt held these lots
pub record TakerLearns (v : Knowledge) (items : List Parcel) : Type 0 where
  pub stood : Stood v items
  pub accounts : Accounts v items
  pub of_lanes : OfLanes v

-- A lot was put: it is the last of its lane's list.
abbrev pub WasAdded : Knowledge → Parcel → Knowledge → Type 0
WasAdded before parcel after = after ≡ Lane parcel.lane (put_of before ++ parcel.lot ∷ [])

-- A lot was taken: it was at the front, and is the last of what was taken.
abbrev pub WasTaken : Knowledge → Parcel → Knowledge → Type 0
WasTaken before parcel after =
    (after ≡ Taker (count_of before) (taken_of before ++ parcel ∷ []) (settled_of before))
    × ((items : List Parcel) × TakerLearns before (parcel ∷ items) × TakerLearns after items)
