-- What each step tells, in the form in which the queue's calls ask for it.
use Rattle.std.proofs.Common.{◌≡◌, ℕ, length, ◌<◌, ◌≤◌, cond, List, [], ◌∷◌, ◌++◌, set, eqb, refl, sym, ◌∙◌, ap, subst, ⊎_elim, ◌⊎◌, ◌≢◌, arith}
use Rattle.std.specs.List.{AllByRecursion}
use Rattle.std.proofs.lemmas.Bool.Decides.{nat_tests}
use Rattle.std.proofs.lemmas.List.{append-nil}
use mathlib.Core.Option.{Option}
use Rattle.crossbeam_queue.specs.Fifo.{Pushes, Pops, Forks, Merges, Learns, Held}
use Rattle.crossbeam_queue.proofs.Lists.{set_here}
use Rattle.worker_lane.specs.declared.lot.Lot.{Lot}
use Rattle.worker_mux.specs.declared.knowledge.Parcel.{Parcel}
use Rattle.worker_mux.specs.declared.knowledge.Settled.{Settled}
use Rattle.worker_mux.specs.declared.knowledge.Knowledge.{Knowledge}
use Rattle.worker_mux.specs.declared.knowledge.Knowledge.TheVariants.{Spent, Lane, Taker}
use Rattle.worker_mux.specs.Rule.{lots_of, IsSettled, Kept, FirstPartsTaken, AllTaken, Stood, TakerLearns, WasTaken, IsLane, IsTaker, put_of, taken_of, settled_of, count_of, with_settled, with_lane, new_lane}
use Rattle.worker_mux.specs.Packets.{IsWhole}
use Rattle.worker_mux.proofs.Lists.{below}
use Rattle.worker_mux.proofs.Steps.{puts, takes, settles, adds}

-- what a step tells whoever knew v
pub stands : (pass : ℕ) (v : Knowledge) → Learns Kept pass v (Stood v)
stands pass v items views kept at = (views, pass, kept, at)

-- of each settled lane, what was taken and then what the belt holds is its list
accounts_of : (count : ℕ) (taken items : List Parcel) (seat : ℕ → Option ℕ) (sent : ℕ → List Lot) → ((m : ℕ) → lots_of m taken ++ lots_of m items ≡ sent m) → (settled : List Settled) → AllByRecursion (IsSettled count seat sent) settled → AllByRecursion (λ s. lots_of s.lane taken ++ lots_of s.lane items ≡ s.list) settled
accounts_of count taken items seat sent each [] table = tt
accounts_of count taken items seat sent each (s ∷ rest) table = (each s.lane ∙ sym table.0.1, accounts_of count taken items seat sent each rest table.1)

-- a list that has no lot of a lane past the last has lots of the lanes alone
pub all_known : (count : ℕ) (ps : List Parcel) → ((n : ℕ) → count ≤ n → lots_of n ps ≡ []) → AllByRecursion (λ p. p.lane < count) ps
all_known count [] without = tt
all_known count (p ∷ ps) without =
    let before : p.lane < count = ⊎_elim (λ (here : p.lane < count). here) (λ (past : count ≤ p.lane). absurd (not_here p.lane p.lane p.lot (lots_of p.lane ps) refl (without p.lane past))) (either_side p.lane count) in
    (before, all_known count ps (λ n past. elsewhere p.lane n p.lot (lots_of n ps) (λ same. omega arith) (without n past)))
  where
    either_side : (a b : ℕ) → (a < b) ⊎ (b ≤ a)
    either_side a b = grind arith

    not_here : (a n : ℕ) (lot : Lot) (rest : List Lot) → a ≡ n → cond (eqb a n) (lot ∷ rest) rest ≡ [] → ⊥
    not_here a n lot rest same empty = grind (arith, nat_tests)

    elsewhere : (a n : ℕ) (lot : Lot) (rest : List Lot) → a ≢ n → cond (eqb a n) (lot ∷ rest) rest ≡ [] → rest ≡ []
    elsewhere a n lot rest other empty = grind (arith, nat_tests)

pub left_nil : (xs ys : List Lot) → xs ++ ys ≡ [] → xs ≡ []
left_nil [] ys empty = refl
left_nil (x ∷ xs) ys empty = cc

-- what a step tells the taker
pub tells_taker : (pass count : ℕ) (taken : List Parcel) (settled : List Settled) → Learns Kept pass (Taker count taken settled) (TakerLearns (Taker count taken settled))
tells_taker pass c t s items views (reader, count, taken, settled, seat, sent, whole) at =
    let mine : (pass ≡ reader) × (c ≡ count) × (t ≡ taken) × (s ≡ settled) = whole.known pass (Taker c t s) at in
    let each : (m : ℕ) → lots_of m t ++ lots_of m items ≡ sent m = λ m. ap (λ l. lots_of m l ++ lots_of m items) mine.2 ∙ whole.each m in
    record {
      stood = stands pass (Taker c t s) items views (reader, count, taken, settled, seat, sent, whole) at;
      accounts = accounts_of count t items seat sent each s (rw mine.3 whole.table);
      of_lanes = all_known c t (λ n past. left_nil (lots_of n t) (lots_of n items) (each n ∙ (whole.none_yet n (omega (arith, mine.1))).1));
    }

pub learns_as : (pass : ℕ) (v : Knowledge) → IsTaker v → Learns Kept pass v (TakerLearns v)
learns_as pass v is = subst (λ (y : Knowledge). Learns Kept pass y (TakerLearns y)) (sym is) (tells_taker pass (count_of v) (taken_of v) (settled_of v))

-- a lane's lot comes onto the belt
pub puts_as : (cap pass : ℕ) (v : Knowledge) (parcel : Parcel) → IsWhole parcel.lot → IsLane parcel.lane v → Pushes Kept cap pass v parcel (λ w. w ≡ Lane parcel.lane (put_of v ++ parcel.lot ∷ []))
puts_as cap pass v parcel is_whole is =
    subst (λ (y : Knowledge). Pushes Kept cap pass y parcel (λ w. w ≡ Lane parcel.lane (put_of y ++ parcel.lot ∷ []))) (sym is) (puts cap pass (put_of v) parcel is_whole)

-- the lot at the front leaves the belt
takes_at : (pass : ℕ) (v : Knowledge) → IsTaker v → Pops Kept pass v (λ parcel w. w ≡ Taker (count_of v) (taken_of v ++ parcel ∷ []) (settled_of v))
takes_at pass v is =
    subst (λ (y : Knowledge). Pops Kept pass y (λ parcel w. w ≡ Taker (count_of y) (taken_of y ++ parcel ∷ []) (settled_of y))) (sym is) (takes pass (count_of v) (taken_of v) (settled_of v))

pub takes_as : (pass : ℕ) (v : Knowledge) → IsTaker v → Pops Kept pass v (λ parcel w. WasTaken v parcel w)
takes_as pass v is parcel items views rule at =
    let step = takes_at pass v is parcel items views rule at in (
      step.0,
      step.1,
      (
        step.2,
        (
          items,
          learns_as pass v is (parcel ∷ items) views rule at,
          learns_as pass step.0 (subst IsTaker (sym step.2) refl) items (set views pass step.0) step.1 (set_here views pass step.0 (below views pass v at)),
        ),
      ),
    )

-- a pass is settled
pub settles_as : (pass other n : ℕ) (v w : Knowledge) → IsTaker v → IsLane n w → Merges Kept pass v other w (with_settled v w) Spent
settles_as pass other n v w is is' =
    subst (λ (y : Knowledge). Merges Kept pass y other w (with_settled y w) Spent) (sym is) (
    subst (λ (z : Knowledge). Merges Kept pass (Taker (count_of v) (taken_of v) (settled_of v)) other z (with_settled (Taker (count_of v) (taken_of v) (settled_of v)) z) Spent) (sym is')
    (settles pass other n (count_of v) (put_of w) (taken_of v) (settled_of v)))

-- what the taker knows once a pass is settled
pub once_settled : (n : ℕ) (v w : Knowledge) → IsTaker v → IsLane n w → with_settled v w ≡ Taker (count_of v) (taken_of v) (record { lane = n; list = put_of w } ∷ settled_of v)
once_settled n v w is is' =
    subst (λ (y : Knowledge). with_settled y w ≡ Taker (count_of y) (taken_of y) (record { lane = n; list = put_of w } ∷ settled_of y)) (sym is) (
    subst (λ (z : Knowledge). with_settled (Taker (count_of v) (taken_of v) (settled_of v)) z ≡ Taker (count_of v) (taken_of v) (record { lane = n; list = put_of z } ∷ settled_of v)) (sym is') refl)

-- a pass is made
pub adds_as : (pass : ℕ) (v : Knowledge) → IsTaker v → Forks Kept pass v (with_lane v) (new_lane v)
adds_as pass v is = subst (λ (y : Knowledge). Forks Kept pass y (with_lane y) (new_lane y)) (sym is) (adds pass (count_of v) (taken_of v) (settled_of v))

pub new_taker : (v : Knowledge) → IsTaker v → IsTaker (with_lane v)
new_taker v is = subst (λ (y : Knowledge). IsTaker (with_lane y)) (sym is) refl

-- a lane begins with no lot
pub begins_empty : (n : ℕ) (v : Knowledge) → v ≡ Lane n [] → IsLane n v × (put_of v ≡ [])
begins_empty n v e = subst (λ (y : Knowledge). IsLane n y × (put_of y ≡ [])) (sym e) (refl, refl)

-- where the belt was empty, that is what the taker was told
pub was_empty : (v : Knowledge) → Held 0 (TakerLearns v) → TakerLearns v []
was_empty v held = empty held.0 held.1 held.2
  where
    empty : (items : List Parcel) → length items ≡ 0 → TakerLearns v items → TakerLearns v []
    empty [] none_left told = told
    empty (x ∷ xs) none_left told = absurd (omega arith)

-- what is at the front is of whole packets
pub front_whole : (v : Knowledge) (parcel : Parcel) (items : List Parcel) → TakerLearns v (parcel ∷ items) → IsWhole parcel.lot
front_whole v parcel items told = whole_at told.stood
  where
    whole_at : Stood v (parcel ∷ items) → IsWhole parcel.lot
    whole_at (views, pass, (reader, count, taken, settled, seat, sent, whole), at) = whole.packets.0

-- what was taken of the settled lanes
parts_of : (taken items : List Parcel) (settled : List Settled) → AllByRecursion (λ s. lots_of s.lane taken ++ lots_of s.lane items ≡ s.list) settled → AllByRecursion (λ s. (rest : List Lot) × (lots_of s.lane taken ++ rest ≡ s.list)) settled
parts_of taken items [] accounts = tt
parts_of taken items (s ∷ settled) accounts = ((lots_of s.lane items, accounts.0), parts_of taken items settled accounts.1)

pub first_parts : (v : Knowledge) (items : List Parcel) → TakerLearns v items → FirstPartsTaken v
first_parts v items told = parts_of (taken_of v) items (settled_of v) told.accounts

all_of : (taken : List Parcel) (settled : List Settled) → AllByRecursion (λ s. lots_of s.lane taken ++ [] ≡ s.list) settled → AllByRecursion (λ s. lots_of s.lane taken ≡ s.list) settled
all_of taken [] accounts = tt
all_of taken (s ∷ settled) accounts = (sym (append-nil (lots_of s.lane taken)) ∙ accounts.0, all_of taken settled accounts.1)

pub all_taken : (v : Knowledge) → TakerLearns v [] → AllTaken v
all_taken v told = all_of (taken_of v) (settled_of v) told.accounts
