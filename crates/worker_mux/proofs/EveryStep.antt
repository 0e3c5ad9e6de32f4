-- What the rule says, without the names of passes and lists that it is kept by.
use Rattle.std.proofs.Common.{◌≡◌, ℕ, ◌<◌, List, [], ◌∷◌, ◌++◌, sym, ◌∙◌, ap, subst, ⊎_elim, ◌⊎◌, inl, inr, arith}
use Rattle.std.specs.Prelude.{Contains}
use Rattle.std.specs.List.{AllByRecursion}
use Rattle.std.proofs.lemmas.List.Elements.{All-contains, All-from_recursion}
use mathlib.Core.Option.{Option, some, none, some-ne-none, some-injective}
use lib.ListN.{get_elem?}
use Rattle.worker_lane.specs.declared.lot.Lot.{Lot}
use Rattle.worker_mux.specs.declared.knowledge.Parcel.{Parcel}
use Rattle.worker_mux.specs.declared.knowledge.Settled.{Settled}
use Rattle.worker_mux.specs.declared.knowledge.Knowledge.{Knowledge}
use Rattle.worker_mux.specs.declared.knowledge.Knowledge.TheVariants.{Lane, Taker}
use Rattle.worker_mux.specs.Rule.{lots_of, IsSettled, HasEachOnce, Kept, Stood, Accounts, OfLanes}
use Rattle.worker_mux.proofs.Told.{tells_taker, all_known}

pub pass_whole : (n : ℕ) (list : List Lot) (items : List Parcel) → Stood (Lane n list) items → (count : ℕ) × (taken : List Parcel) × (settled : List Settled) × Stood (Taker count taken settled) items × (n < count) × (lots_of n taken ++ lots_of n items ≡ list)
pass_whole n list items (views, pass, (reader, count, taken, settled, seat, sent, whole), at) =
    let mine : (seat n ≡ some pass) × (list ≡ sent n) × (n < count) = whole.known pass (Lane n list) at in
    (count, taken, settled, (views, reader, (reader, count, taken, settled, seat, sent, whole), whole.reads), mine.2, whole.each n ∙ sym mine.1)

pub lane_whole : (c : ℕ) (t items : List Parcel) (s : List Settled) → Stood (Taker c t s) items → (n : ℕ) → n < c → (list : List Lot) × (lots_of n t ++ lots_of n items ≡ list) × (Stood (Lane n list) items ⊎ Contains s (record { lane = n; list = list }))
lane_whole c t items s (views, pass, (reader, count, taken, settled, seat, sent, whole), at) n is_lane =
    let mine : (pass ≡ reader) × (c ≡ count) × (t ≡ taken) × (s ≡ settled) = whole.known pass (Taker c t s) at in (
      sent n,
      ap (λ l. lots_of n l ++ lots_of n items) mine.2 ∙ whole.each n,
      ⊎_elim
          (λ (live : (p : ℕ) × (seat n ≡ some p) × (get_elem? views p ≡ some (Lane n (sent n)))). inl (views, live.0, (reader, count, taken, settled, seat, sent, whole), live.2))
          (λ (ended : (seat n ≡ none) × Contains settled (record { lane = n; list = sent n })). inr (subst (λ (table : List Settled). Contains table (record { lane = n; list = sent n })) (sym mine.3) ended.1))
          (whole.holders n (omega (arith, is_lane, mine.1))),
    )

pub settled_whole : (c : ℕ) (t items : List Parcel) (s : List Settled) → Stood (Taker c t s) items → Accounts (Taker c t s) items × HasEachOnce s
settled_whole c t items s (views, pass, (reader, count, taken, settled, seat, sent, whole), at) =
    let mine : (pass ≡ reader) × (c ≡ count) × (t ≡ taken) × (s ≡ settled) = whole.known pass (Taker c t s) at in
    ((tells_taker pass c t s items views (reader, count, taken, settled, seat, sent, whole) at).accounts, subst HasEachOnce (sym mine.3) whole.once)

right_nil : (xs ys : List Lot) → xs ++ ys ≡ [] → ys ≡ []
right_nil [] ys empty = empty
right_nil (x ∷ xs) ys empty = cc

pub only_lanes : (c : ℕ) (t items : List Parcel) (s : List Settled) → Stood (Taker c t s) items → OfLanes (Taker c t s) × OfLanes (Taker c items s)
only_lanes c t items s (views, pass, (reader, count, taken, settled, seat, sent, whole), at) =
    let mine : (pass ≡ reader) × (c ≡ count) × (t ≡ taken) × (s ≡ settled) = whole.known pass (Taker c t s) at in
    ((tells_taker pass c t s items views (reader, count, taken, settled, seat, sent, whole) at).of_lanes, all_known c items (λ n past. right_nil (lots_of n taken) (lots_of n items) (whole.each n ∙ (whole.none_yet n (omega (arith, past, mine.1))).1)))

pub one_pass : (items : List Parcel) (views : List Knowledge) → Kept items views → (pass other n : ℕ) (list more : List Lot) → get_elem? views pass ≡ some (Lane n list) → get_elem? views other ≡ some (Lane n more) → pass ≡ other
one_pass items views (reader, count, taken, settled, seat, sent, whole) pass other n list more here there =
    let mine : (seat n ≡ some pass) × (list ≡ sent n) × (n < count) = whole.known pass (Lane n list) here in
    let theirs : (seat n ≡ some other) × (more ≡ sent n) × (n < count) = whole.known other (Lane n more) there in
    some-injective pass other (sym mine.0 ∙ theirs.0)

-- a lane with an entry has no seat
unseated : (count : ℕ) (seat : ℕ → Option ℕ) (sent : ℕ → List Lot) (settled : List Settled) → AllByRecursion (IsSettled count seat sent) settled → (entry : Settled) → Contains settled entry → seat entry.lane ≡ none
unseated count seat sent settled table entry inside = (All-contains (IsSettled count seat sent) settled entry (All-from_recursion (IsSettled count seat sent) settled table) inside).0

pub one_holder : (items : List Parcel) (views : List Knowledge) → Kept items views → (pass reader n count : ℕ) (list more : List Lot) (taken : List Parcel) (settled : List Settled) → get_elem? views pass ≡ some (Lane n list) → get_elem? views reader ≡ some (Taker count taken settled) → Contains settled (record { lane = n; list = more }) → ⊥
one_holder items views (reader, count, taken, settled, seat, sent, whole) pass other n c list more t s here there inside =
    let mine : (seat n ≡ some pass) × (list ≡ sent n) × (n < count) = whole.known pass (Lane n list) here in
    let theirs : (other ≡ reader) × (c ≡ count) × (t ≡ taken) × (s ≡ settled) = whole.known other (Taker c t s) there in
    some-ne-none pass (sym mine.0 ∙ unseated count seat sent settled whole.table (record { lane = n; list = more }) (subst (λ (table : List Settled). Contains table (record { lane = n; list = more })) theirs.3 inside))

pub one_taker : (items : List Parcel) (views : List Knowledge) → Kept items views → (pass other c d : ℕ) (taken more : List Parcel) (settled others : List Settled) → get_elem? views pass ≡ some (Taker c taken settled) → get_elem? views other ≡ some (Taker d more others) → pass ≡ other
one_taker items views (reader, count, taken, settled, seat, sent, whole) pass other c d t more s others here there =
    let mine : (pass ≡ reader) × (c ≡ count) × (t ≡ taken) × (s ≡ settled) = whole.known pass (Taker c t s) here in
    let theirs : (other ≡ reader) × (d ≡ count) × (more ≡ taken) × (others ≡ settled) = whole.known other (Taker d more others) there in
    mine.0 ∙ sym theirs.0
