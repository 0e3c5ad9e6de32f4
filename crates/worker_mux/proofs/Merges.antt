-- What was added is the packets of each lane's events, merged.
use Rattle.std.proofs.Common.{◌≡◌, ◌≢◌, ℕ, zero, suc, ◌+◌, ◌<◌, ◌≤◌, List, [], ◌∷◌, ◌++◌, map, length, cond, eqb, Bool, true, false, slice_index_or, inl, inr, refl, sym, ◌∙◌, ap, subst, arith}
use Rattle.std.specs.Prelude.{Option, None, Some, IfSome, All, Result, Ok, Err, OnOk}
use Rattle.std.specs.List.{AllByRecursion, flat_map, range_with_len, filter}
use Rattle.std.specs.Int.{w32, to_be_bytes}
use Rattle.std.specs.Option.{option_map}
use Rattle.std.proofs.lemmas.Bool.{cases_eq}
use Rattle.std.proofs.lemmas.Bool.Decides.{nat_tests}
use Rattle.std.proofs.lemmas.List.{append-nil, append_cancel_left, length-append, length-map}
use Rattle.std.proofs.lemmas.List.Concat.{flat_map-append}
use Rattle.std.proofs.lemmas.List.Folds.{flat_map-map}
use Rattle.std.proofs.lemmas.Result.{on_ok_weaker}
use Rattle.std.proofs.lemmas.List.Elements.{All-nil, All-cons, All-append, All-head, All-tail, filter-append}
use Rattle.edge_io.specs.Children.{Output}
use Rattle.edge_io.specs.Disk.{Folder}
use Rattle.edge_io.specs.Seen.{Seen}
use Rattle.edge_io.specs.Steps.{Goes, Grown}
use Rattle.packet_codec.specs.declared.event.Event.{Event}
use Rattle.packet_codec.specs.Canonical.{canonical, IsEvent, Fits}
use Rattle.packet_codec.specs.Grammar.{AreBytes}
use Rattle.packet_codec.specs.Lanes.{is_of_lane, of_lane, IsOfLaneBelow}
use Rattle.packet_codec.specs.Flags.{first_flags, second_flags}
use Rattle.packet_codec.specs.Packet.{signature, SpellsEvent}
use Rattle.packet_codec.specs.Routing.{under}
use Rattle.packet_codec.proofs.FilterLemmas.{not_true}
use Rattle.packet_codec.proofs.GrammarLemmas.{fits_from_are}
use Rattle.packet_codec.proofs.MergeLemmas.{under_is_in_lane, in_one_lane}
use Rattle.packet_codec.proofs.PacketLemmas.{no_front, one_event}
use Rattle.packet_codec.proofs.SpellingLemmas.{canonical_spells}
use Rattle.run_shelf.specs.declared.faults.ShelfCall.{ShelfCall}
use Rattle.stream_reader.proofs.FrontLemmas.{are_before, are_behind}
use Rattle.sub_number.specs.Checksum.{crc32}
use Rattle.worker_lane.specs.Rest.{IsEventOf}
use Rattle.worker_lane.specs.Lanes.{rest, lane_number}
use Rattle.worker_lane.specs.declared.lane.Lane.{Lane}
use Rattle.worker_lane.specs.declared.lot.Ending.TheVariants.{NoMemory}
use Rattle.worker_lane.specs.declared.lot.Lot.{Lot}
use Rattle.worker_lane.specs.declared.lot.Lot.TheVariants.{Packet, End}
use Rattle.std.specs.declared.snapshot.Snapshot.{Snapshot}
use Rattle.worker_mux.specs.Callers.{GoesOn, HasAdded, Tape, calls_for, calls_of, packet_of, bytes_recorded, pieces_of_lot, pieces_of_lots}
use Rattle.worker_mux.specs.Passes.{lane_count, lots_taken, settled_lanes, HasAll, IsOfLanes}
use Rattle.worker_mux.specs.Rule.{lots_of}
use Rattle.worker_mux.specs.Runs.{lot_packets, AreEventsOf, AddsMerge, HearsMerge, IsRunRecorded, share, first_share}
use Rattle.worker_mux.specs.Works.{AllWell, IsLotOfBytes, joined_packets, IsOwn, Pairs, IsEntryOf, Settles}
use Rattle.worker_mux.specs.declared.caller.Caller.{Caller}
use Rattle.worker_mux.specs.declared.knowledge.Parcel.{Parcel}
use Rattle.worker_mux.specs.declared.knowledge.Settled.{Settled}
use Rattle.worker_mux.specs.declared.work.Work.{Work}
use Rattle.worker_mux.proofs.Adding.{goes_grown_none}

-- ---- packets tell their events

not_empty : (x : ℕ) (xs : List ℕ) → x ∷ xs ≡ [] → ⊥
not_empty x xs same = cc

some_bytes : (e : Event) (rest : List ℕ) → IsEvent e → Fits e → canonical e ++ rest ≡ [] → ⊥
some_bytes e rest is fits same = empty (canonical e) (canonical_spells e is fits) same
  where
    empty : (bytes : List ℕ) → SpellsEvent bytes e → bytes ++ rest ≡ [] → ⊥
    empty bytes s none =
        let begins : bytes ++ rest ≡ signature ∷ (((first_flags e ∷ second_flags e ∷ s.size ++ s.fields) ++ to_be_bytes w32 (crc32 s.body)) ++ rest) =
        ap (λ (l : List ℕ). l ++ rest) (s.parts ∙ ap (λ (l : List ℕ). l ++ to_be_bytes w32 (crc32 s.body)) s.body_is) in
        not_empty signature (((first_flags e ∷ second_flags e ∷ s.size ++ s.fields) ++ to_be_bytes w32 (crc32 s.body)) ++ rest) (sym begins ∙ none)

-- events whose packets are the same bytes, one after another, are the same
same_events : (xs ys : List Event) → AreBytes (flat_map canonical xs) → All IsEvent xs → All Fits xs → All IsEvent ys → All Fits ys → flat_map canonical xs ≡ flat_map canonical ys → xs ≡ ys
same_events [] [] are x_are x_fit y_are y_fit same = refl
same_events [] (y ∷ ys) are x_are x_fit y_are y_fit same = absurd (some_bytes y (flat_map canonical ys) (All-head IsEvent y ys y_are) (All-head Fits y ys y_fit) (sym same))
same_events (x ∷ xs) [] are x_are x_fit y_are y_fit same = absurd (some_bytes x (flat_map canonical xs) (All-head IsEvent x xs x_are) (All-head Fits x xs x_fit) same)
same_events (x ∷ xs) (y ∷ ys) are x_are x_fit y_are y_fit same =
    let a : List ℕ = canonical x in
    let b : List ℕ = canonical y in
    let s : SpellsEvent a x = canonical_spells x (All-head IsEvent x xs x_are) (All-head Fits x xs x_fit) in
    let t : SpellsEvent b y = canonical_spells y (All-head IsEvent y ys y_are) (All-head Fits y ys y_fit) in
    let fits_a = fits_from_are a (are_before a (flat_map canonical xs) are) in
    let fits_b = fits_from_are b (are_before b (flat_map canonical ys) (subst AreBytes same are)) in
    let front : a ≡ b = no_front a b (flat_map canonical xs) (flat_map canonical ys) x y fits_a fits_b s t same in
    let first : x ≡ y = one_event a x y fits_a s (subst (λ (bytes : List ℕ). SpellsEvent bytes y) (sym front) t) in
    let behind : flat_map canonical xs ≡ flat_map canonical ys = append_cancel_left a (flat_map canonical xs) (flat_map canonical ys) (same ∙ ap (λ (l : List ℕ). l ++ flat_map canonical ys) (sym front)) in
    let more : xs ≡ ys = same_events xs ys (are_behind a (flat_map canonical xs) are) (All-tail IsEvent x xs x_are) (All-tail Fits x xs x_fit) (All-tail IsEvent y ys y_are) (All-tail Fits y ys y_fit) behind in
    λ i. first i ∷ more i

-- what passes a filter has what all have
filtered : (P : Event → Type 0) (p : Event → Bool) (xs : List Event) → All P xs → All P (filter p xs)
filtered P p [] all = All-nil P
filtered P p (x ∷ xs) all = at (p x) (filtered P p xs (All-tail P x xs all))
  where
    at : (b : Bool) → All P (filter p xs) → All P (cond b (x ∷ filter p xs) (filter p xs))
    at true more = All-cons P x (filter p xs) (All-head P x xs all) more
    at false more = more

-- ---- the events of what was taken

own_lane : (n lane : ℕ) (e : Event) → n < 64 → lane < 64 → is_of_lane n (under lane e) ≡ eqb lane n
own_lane n lane e small also = elim (cases_eq lane n) [
  | inl same ↦
      let is : is_of_lane n (under lane e) ≡ true = subst (λ (k : ℕ). is_of_lane n (under k e) ≡ true) (sym same) (under_is_in_lane n e.route small) in
      is ∙ sym (here lane n same)
  | inr other ↦
      not_true (is_of_lane n (under lane e)) (λ is. other (in_one_lane lane n (under lane e).route also small (under_is_in_lane lane e.route also) is)) ∙ sym (elsewhere lane n other)
]
  where
    here : (lane n : ℕ) → lane ≡ n → eqb lane n ≡ true
    here lane n same = grind (arith, nat_tests)

    elsewhere : (lane n : ℕ) → lane ≢ n → eqb lane n ≡ false
    elsewhere lane n other = grind (arith, nat_tests)

abbrev AllOwn : List Parcel → Type 0
AllOwn ps = AllByRecursion (λ p. IsOwn p.lane p.lot) ps

abbrev events_of_lot : (lane : ℕ) (lot : Lot) → IsOwn lane lot → List Event
events_of_lot lane (Packet packets) own = own.0.events
events_of_lot lane (End how) own = []

abbrev events_of_parcels : (ps : List Parcel) → AllOwn ps → List Event
events_of_parcels [] own = []
events_of_parcels (p ∷ ps) own = events_of_lot p.lane p.lot own.0 ++ events_of_parcels ps own.1

bytes_of_events : (ps : List Parcel) (own : AllOwn ps) → bytes_recorded ps ≡ flat_map canonical (events_of_parcels ps own)
bytes_of_events [] own = refl
bytes_of_events (p ∷ ps) own = one p.lane p.lot own.0 (bytes_recorded ps) (events_of_parcels ps own.1) (bytes_of_events ps own.1)
  where
    one : (lane : ℕ) (lot : Lot) (is : IsOwn lane lot) (bytes : List ℕ) (events : List Event) → bytes ≡ flat_map canonical events → packet_of lot ++ bytes ≡ flat_map canonical (events_of_lot lane lot is ++ events)
    one lane (Packet packets) is bytes events same = (λ i. is.0.packets_are i ++ same i) ∙ sym (flat_map-append canonical is.0.events events)
    one lane (End how) is bytes events same = same

-- the events of each lot of packets are a group
abbrev groups_of_lot : (lane : ℕ) (lot : Lot) → IsOwn lane lot → List (List Event)
groups_of_lot lane (Packet packets) own = own.0.events ∷ []
groups_of_lot lane (End how) own = []

abbrev groups_of : (ps : List Parcel) → AllOwn ps → List (List Event)
groups_of [] own = []
groups_of (p ∷ ps) own = groups_of_lot p.lane p.lot own.0 ++ groups_of ps own.1

joined : (ps : List Parcel) (own : AllOwn ps) → flat_map (λ group. group) (groups_of ps own) ≡ events_of_parcels ps own
joined [] own = refl
joined (p ∷ ps) own = one p.lane p.lot own.0 (groups_of ps own.1) (events_of_parcels ps own.1) (joined ps own.1)
  where
    one : (lane : ℕ) (lot : Lot) (is : IsOwn lane lot) (groups : List (List Event)) (events : List Event) → flat_map (λ group. group) groups ≡ events → flat_map (λ group. group) (groups_of_lot lane lot is ++ groups) ≡ events_of_lot lane lot is ++ events
    one lane (Packet packets) is groups events same = ap (λ (l : List Event). is.0.events ++ l) same
    one lane (End how) is groups events same = same

-- what was heard are the packets of the groups
pieces_of_events : (ps : List Parcel) (own : AllOwn ps) → pieces_of_lots ps ≡ map (flat_map canonical) (groups_of ps own)
pieces_of_events [] own = refl
pieces_of_events (p ∷ ps) own = one p.lane p.lot own.0 (pieces_of_lots ps) (groups_of ps own.1) (pieces_of_events ps own.1)
  where
    one : (lane : ℕ) (lot : Lot) (is : IsOwn lane lot) (pieces : List (List ℕ)) (groups : List (List Event)) → pieces ≡ map (flat_map canonical) groups → pieces_of_lot lot ++ pieces ≡ map (flat_map canonical) (groups_of_lot lane lot is ++ groups)
    one lane (Packet packets) is pieces groups same = λ i. is.0.packets_are i ∷ same i
    one lane (End how) is pieces groups same = same

-- each lot that takes a call has events
calls_few : (ps : List Parcel) (own : AllOwn ps) → calls_of ps ≤ length (events_of_parcels ps own)
calls_few [] own = omega arith
calls_few (p ∷ ps) own = one p.lane p.lot own.0 (events_of_parcels ps own.1) (calls_few ps own.1)
  where
    few : (packets : List ℕ) (events : List Event) → packets ≡ flat_map canonical events → calls_for packets ≤ length events
    few packets [] is = subst (λ (l : List ℕ). calls_for l ≤ 0) (sym is) (omega arith)
    few [] (e ∷ events) is = omega arith
    few (byte ∷ bytes) (e ∷ events) is = omega arith

    one : (lane : ℕ) (lot : Lot) (is : IsOwn lane lot) (events : List Event) → calls_of ps ≤ length events → calls_for (packet_of lot) + calls_of ps ≤ length (events_of_lot lane lot is ++ events)
    one lane (Packet packets) is events more =
        let here : calls_for packets ≤ length is.0.events = few packets is.0.events is.0.packets_are in
        let both : length (is.0.events ++ events) ≡ length is.0.events + length events = length-append is.0.events events in
        omega (arith, here, more, both)
    one lane (End how) is events more = omega (arith, more)

-- what holds of each event that is under its lane
all_under : (P : Event → Type 0) (lane : ℕ) → ((e : Event) → IsEventOf lane e → P e) → (events : List Event) → AllByRecursion (IsEventOf lane) events → All P events
all_under P lane each [] own = All-nil P
all_under P lane each (e ∷ events) own = All-cons P e events (each e own.0) (all_under P lane each events own.1)

all_of_taken : (P : Event → Type 0) (count : ℕ) → ((lane : ℕ) (e : Event) → lane < count → IsEventOf lane e → P e) → (ps : List Parcel) (own : AllOwn ps) → AllByRecursion (λ p. p.lane < count) ps → All P (events_of_parcels ps own)
all_of_taken P count each [] own below = All-nil P
all_of_taken P count each (p ∷ ps) own below = one p.lane p.lot own.0 below.0 (all_of_taken P count each ps own.1 below.1)
  where
    one : (lane : ℕ) (lot : Lot) (is : IsOwn lane lot) → lane < count → All P (events_of_parcels ps own.1) → All P (events_of_lot lane lot is ++ events_of_parcels ps own.1)
    one lane (Packet packets) is within more = All-append P is.0.events (events_of_parcels ps own.1) (all_under P lane (λ e under. each lane e within under) is.0.events is.0.under) more
    one lane (End how) is within more = more

-- each is of a lane
of_lane_below : (count : ℕ) → count ≤ 64 → (lane : ℕ) (e : Event) → lane < count → IsEventOf lane e → IsOfLaneBelow count e
of_lane_below count few lane e within is = (lane, within, subst (λ (x : Event). is_of_lane lane x ≡ true) (sym is.event_is) (under_is_in_lane lane is.inner.route (omega (arith, few, within))))

-- of the events of one lane all are in it, or none
no_events : (b : Bool) → ◌≡◌ {A = List Event} [] (cond b [] [])
no_events true = refl
no_events false = refl

one_more_event : (b : Bool) (e : Event) (events : List Event) → cond b (e ∷ cond b events []) (cond b events []) ≡ cond b (e ∷ events) []
one_more_event true e events = refl
one_more_event false e events = refl

all_or_none : (n lane : ℕ) → n < 64 → lane < 64 → (events : List Event) → AllByRecursion (IsEventOf lane) events → of_lane n events ≡ cond (eqb lane n) events []
all_or_none n lane small also [] own = no_events (eqb lane n)
all_or_none n lane small also (e ∷ events) own =
    let is : is_of_lane n e ≡ eqb lane n = ap (is_of_lane n) own.0.event_is ∙ own_lane n lane own.0.inner small also in
    let more : of_lane n events ≡ cond (eqb lane n) events [] = all_or_none n lane small also events own.1 in
    (λ i. cond (is i) (e ∷ more i) (more i)) ∙ one_more_event (eqb lane n) e events

-- the packets of a lane's events are those among its lots
lane_packets : (n count : ℕ) → n < 64 → count ≤ 64 → (ps : List Parcel) (own : AllOwn ps) → AllByRecursion (λ p. p.lane < count) ps → joined_packets (lots_of n ps) ≡ flat_map canonical (of_lane n (events_of_parcels ps own))
lane_packets n count small few [] own below = refl
lane_packets n count small few (p ∷ ps) own below = one p.lane p.lot own.0 below.0 (lots_of n ps) (events_of_parcels ps own.1) (lane_packets n count small few ps own.1 below.1)
  where
    packets_at : (b : Bool) (packets : List ℕ) (here : List Event) (lots : List Lot) (events : List Event) → packets ≡ flat_map canonical here → joined_packets lots ≡ flat_map canonical (of_lane n events) → joined_packets (cond b (Packet packets ∷ lots) lots) ≡ flat_map canonical (cond b here [] ++ of_lane n events)
    packets_at true packets here lots events is same = (λ i. is i ++ same i) ∙ sym (flat_map-append canonical here (of_lane n events))
    packets_at false packets here lots events is same = same

    end_at : (b : Bool) (how : _) (lots : List Lot) (events : List Event) → joined_packets lots ≡ flat_map canonical (of_lane n events) → joined_packets (cond b (End how ∷ lots) lots) ≡ flat_map canonical (of_lane n events)
    end_at true how lots events same = same
    end_at false how lots events same = same

    one : (lane : ℕ) (lot : Lot) (is : IsOwn lane lot) → lane < count → (lots : List Lot) (events : List Event) → joined_packets lots ≡ flat_map canonical (of_lane n events) → joined_packets (cond (eqb lane n) (lot ∷ lots) lots) ≡ flat_map canonical (of_lane n (events_of_lot lane lot is ++ events))
    one lane (Packet packets) is within lots events same =
        packets_at (eqb lane n) packets is.0.events lots events is.0.packets_are same
        ∙ ap (λ (l : List Event). flat_map canonical (l ++ of_lane n events)) (sym (all_or_none n lane small (omega (arith, few, within)) is.0.events is.0.under))
        ∙ ap (flat_map canonical) (sym (filter-append (is_of_lane n) is.0.events events))
    one lane (End how) is within lots events same = end_at (eqb lane n) how lots events same

-- and have bytes
lane_has_bytes : (n : ℕ) (ps : List Parcel) → AllOwn ps → AreBytes (joined_packets (lots_of n ps))
lane_has_bytes n [] own = All-nil (λ byte. byte < 256)
lane_has_bytes n (p ∷ ps) own = one (eqb p.lane n) p.lot own.0.1 (lane_has_bytes n ps own.1)
  where
    one : (b : Bool) (lot : Lot) → IsLotOfBytes lot → AreBytes (joined_packets (lots_of n ps)) → AreBytes (joined_packets (cond b (lot ∷ lots_of n ps) (lots_of n ps)))
    one true (Packet packets) are more = All-append (λ byte. byte < 256) packets (joined_packets (lots_of n ps)) are more
    one true (End how) are more = more
    one false lot are more = more

-- ---- the lots of the lanes

-- where the lots of each lane are its own, all lots that were taken are
all_own : (count : ℕ) (ps : List Parcel) → ((n : ℕ) → n < count → AllByRecursion (IsOwn n) (lots_of n ps)) → AllByRecursion (λ p. p.lane < count) ps → AllOwn ps
all_own count [] each below = tt
all_own count (p ∷ ps) each below =
    (head p.lane p.lane p.lot (lots_of p.lane ps) refl (each p.lane below.0), all_own count ps (λ n within. others (eqb p.lane n) n (each n within)) below.1)
  where
    head : (lane n : ℕ) (lot : Lot) (lots : List Lot) → lane ≡ n → AllByRecursion (IsOwn n) (cond (eqb lane n) (lot ∷ lots) lots) → IsOwn n lot
    head lane n lot lots same all = let here : eqb lane n ≡ true = grind (arith, nat_tests) in (subst (λ (b : Bool). AllByRecursion (IsOwn n) (cond b (lot ∷ lots) lots)) here all).0

    others : (b : Bool) (n : ℕ) → AllByRecursion (IsOwn n) (cond b (p.lot ∷ lots_of n ps) (lots_of n ps)) → AllByRecursion (IsOwn n) (lots_of n ps)
    others true n all = all.1
    others false n all = all

-- lots taken with no lack of memory
well_lots : (n : ℕ) (ps : List Parcel) → AllByRecursion (λ p. p.lot ≡ End NoMemory → ⊥) ps → AllWell (lots_of n ps)
well_lots n [] all = tt
well_lots n (p ∷ ps) all = one (eqb p.lane n) (well_lots n ps all.1)
  where
    one : (b : Bool) → AllWell (lots_of n ps) → AllWell (cond b (p.lot ∷ lots_of n ps) (lots_of n ps))
    one true others = (all.0, others)
    one false others = others

-- an entry of the table against a lane's number and lots
abbrev IsOf : ℕ × Option (List ℕ) → Settled → Type 0
IsOf share entry = (entry.lane ≡ share.0) × AllByRecursion (IsOwn entry.lane) entry.list × (AllWell entry.list → IfSome share.1 (λ l. joined_packets entry.list ≡ l))

first : (j k n m : ℕ) (xs ys : List ℕ) → j ≡ k + 0 → n ∷ xs ≡ k ∷ ys → m ≡ n → j ≡ m
first j k n m xs ys is same other = let head : n ≡ k = cc in omega arith

others : (n k : ℕ) (xs ys : List ℕ) → n ∷ xs ≡ k ∷ ys → xs ≡ ys
others n k xs ys same = cc

-- the bytes of lots are those of their packets
bytes_of_packets : (lots : List Lot) → joined_packets lots ≡ flat_map (λ packet. packet) (lot_packets lots)
bytes_of_packets [] = refl
bytes_of_packets (Packet packet ∷ lots) = ap (λ (l : List ℕ). packet ++ l) (bytes_of_packets lots)
bytes_of_packets (End how ∷ lots) = bytes_of_packets lots

bytes_told : (bytes : List ℕ) (told : Option (List Lot)) → IfSome (option_map joined_packets told) (λ l. bytes ≡ l) → IfSome told (λ l. bytes ≡ joined_packets l)
bytes_told bytes None same = tt
bytes_told bytes (Some l) same = same

-- where a lane's events are told, they are those that were taken of it
told_events : (told : Option (List Lot)) (list : Option (List Event)) (lots : List Lot) (events : List Event) → IfSome told (λ l. joined_packets lots ≡ joined_packets l) → AreEventsOf told list → joined_packets lots ≡ flat_map canonical events
    → AreBytes (joined_packets lots) → All IsEvent events → All Fits events → IfSome list (λ l. events ≡ l)
told_events told None lots events same are packets bytes is fit = tt
told_events None (Some list) lots events same are packets bytes is fit = absurd are
told_events (Some l) (Some list) lots events same are packets bytes is fit =
    same_events events list (subst AreBytes packets bytes) is fit are.are_events are.fit
    (sym packets ∙ same ∙ bytes_of_packets l ∙ ap (flat_map (λ packet. packet)) are.packets ∙ flat_map-map (λ packet. packet) canonical list)

module _ {C : Type 0} (seen : C → Seen Output) where
  pairs_of : (works : List (Work C)) (table : List Settled) → Pairs (IsEntryOf seen) works table → Pairs IsOf (map (share seen) works) table
  pairs_of [] [] pairs = tt
  pairs_of [] (s ∷ table) pairs = absurd pairs
  pairs_of (w ∷ works) [] pairs = absurd pairs
  pairs_of (w ∷ works) (s ∷ table) pairs = ((pairs.0.lane, pairs.0.own, pairs.0.list), pairs_of works table pairs.1)

  -- the lots of each lane are its own
  each_own : (taken : List Parcel) (lanes : List (Lane C)) (table : List Settled) (k : ℕ) → map lane_number lanes ≡ range_with_len k (length lanes)
      → Pairs IsOf (map (first_share seen) lanes) table → AllByRecursion (λ s. lots_of s.lane taken ≡ s.list) table
      → (n j : ℕ) → n < length lanes → j ≡ k + n → AllByRecursion (IsOwn j) (lots_of j taken)
  each_own taken [] table k numbers pairs accounts n j within is = absurd (omega arith)
  each_own taken (lane ∷ lanes) [] k numbers pairs accounts n j within is = absurd pairs
  each_own taken (lane ∷ lanes) (s ∷ table) k numbers pairs accounts zero j within is =
      let here : j ≡ s.lane = first j k (lane_number lane) s.lane (map lane_number lanes) (range_with_len (k + 1) (length lanes)) is numbers pairs.0.0 in
      subst (λ (n : ℕ). AllByRecursion (IsOwn n) (lots_of n taken)) (sym here) (subst (AllByRecursion (IsOwn s.lane)) (sym accounts.0) pairs.0.1)
  each_own taken (lane ∷ lanes) (s ∷ table) k numbers pairs accounts (suc n) j within is =
      each_own taken lanes table (k + 1) (others (lane_number lane) k (map lane_number lanes) (range_with_len (k + 1) (length lanes)) numbers) pairs.1 accounts.1 n j (omega arith) (omega arith)

  -- where a lane tells, what was taken of it is all that it had to give
  each_told : (taken : List Parcel) → AllByRecursion (λ p. p.lot ≡ End NoMemory → ⊥) taken → (lanes : List (Lane C)) (table : List Settled) (k : ℕ) → map lane_number lanes ≡ range_with_len k (length lanes)
      → Pairs IsOf (map (first_share seen) lanes) table → AllByRecursion (λ s. lots_of s.lane taken ≡ s.list) table
      → (n j : ℕ) → n < length lanes → j ≡ k + n → IfSome (slice_index_or (map (rest seen) lanes) n None) (λ l. joined_packets (lots_of j taken) ≡ joined_packets l)
  each_told taken well [] table k numbers pairs accounts n j within is = absurd (omega arith)
  each_told taken well (lane ∷ lanes) [] k numbers pairs accounts n j within is = absurd pairs
  each_told taken well (lane ∷ lanes) (s ∷ table) k numbers pairs accounts zero j within is =
      let here : j ≡ s.lane = first j k (lane_number lane) s.lane (map lane_number lanes) (range_with_len (k + 1) (length lanes)) is numbers pairs.0.0 in
      subst (λ (lots : List Lot). IfSome (rest seen lane) (λ l. joined_packets lots ≡ joined_packets l)) (sym accounts.0 ∙ ap (λ (i : ℕ). lots_of i taken) (sym here))
      (bytes_told (joined_packets s.list) (rest seen lane) (pairs.0.2 (subst AllWell accounts.0 (well_lots s.lane taken well))))
  each_told taken well (lane ∷ lanes) (s ∷ table) k numbers pairs accounts (suc n) j within is =
      each_told taken well lanes table (k + 1) (others (lane_number lane) k (map lane_number lanes) (range_with_len (k + 1) (length lanes)) numbers) pairs.1 accounts.1 n j (omega arith) (omega arith)

  -- all that was taken is of its lanes
  taken_own : (hears : List (List ℕ) → Type 0) (lanes : List (Lane C)) (works : List (Work C)) (count : ℕ) (old new : Tape) → map lane_number lanes ≡ range_with_len 0 (length lanes) → count ≡ length lanes
      → map (share seen) works ≡ map (first_share seen) lanes → (all : IsRunRecorded seen hears count works old new) → AllOwn all.taken
  taken_own hears lanes works count old new numbers counted shares all =
      let pairs : Pairs IsOf (map (first_share seen) lanes) all.table = subst (λ (l : List (ℕ × Option (List ℕ))). Pairs IsOf l all.table) shares (pairs_of works all.table all.entries) in
      all_own count all.taken (λ n within. each_own all.taken lanes all.table 0 numbers pairs all.accounts n n (omega (arith, counted)) (omega arith)) all.of_lanes

  -- the events of what was taken are a merge of those of the lanes
  merged_of : (hears : List (List ℕ) → Type 0) (lanes : List (Lane C)) (works : List (Work C)) (count : ℕ) (old new : Tape) → length lanes ≤ 64 → map lane_number lanes ≡ range_with_len 0 (length lanes) → count ≡ length lanes
      → map (share seen) works ≡ map (first_share seen) lanes → (all : IsRunRecorded seen hears count works old new) → (own : AllOwn all.taken) → (merge : AddsMerge (map (rest seen) lanes) old.folder.told new.folder.told) × (events_of_parcels all.taken own ≡ merge.events)
  merged_of hears lanes works count old new few numbers counted shares all own =
      let pairs : Pairs IsOf (map (first_share seen) lanes) all.table = subst (λ (l : List (ℕ × Option (List ℕ))). Pairs IsOf l all.table) shares (pairs_of works all.table all.entries) in
      let events : List Event = events_of_parcels all.taken own in
      let is : All IsEvent events = all_of_taken IsEvent count (λ lane e within under. under.is_event) all.taken own all.of_lanes in
      let fit : All Fits events = all_of_taken Fits count (λ lane e within under. under.fits) all.taken own all.of_lanes in
      let size : length (map (rest seen) lanes) ≡ length lanes = length-map lanes (rest seen) in
      let below : All (IsOfLaneBelow (length (map (rest seen) lanes))) events = subst (λ (n : ℕ). All (IsOfLaneBelow n) events) (counted ∙ sym size) (all_of_taken (IsOfLaneBelow count) count (of_lane_below count (omega (arith, few, counted))) all.taken own all.of_lanes) in (
        record {
          events = events;
          added = subst (λ (l : List ℕ). Goes old.folder.told new.folder.told (Grown l)) (bytes_of_events all.taken own) all.added;
          are_events = is;
          fit = fit;
          of_lanes = below;
          merged = λ lists have. record {
            each = λ lane within.
                let inside : lane < length lanes = omega (arith, within, have.count, size) in
                told_events (slice_index_or (map (rest seen) lanes) lane None) (slice_index_or lists lane None) (lots_of lane all.taken) (of_lane lane events)
                (each_told all.taken all.well lanes all.table 0 numbers pairs all.accounts lane lane inside (omega arith))
                (have.each lane (omega (arith, inside, size)))
                (lane_packets lane count (omega (arith, inside, few)) (omega (arith, few, counted)) all.taken own all.of_lanes)
                (lane_has_bytes lane all.taken own)
                (filtered IsEvent (is_of_lane lane) events is)
                (filtered Fits (is_of_lane lane) events fit);
            of_lanes = subst (λ (n : ℕ). All (IsOfLaneBelow n) events) (sym have.count) below;
          };
        },
        refl,
      )

  -- with no lack of memory: a merge is added, and was heard
  pub heard_of : (hears : List (List ℕ) → Type 0) (lanes : List (Lane C)) (works : List (Work C)) (count : ℕ) (old new : Tape) → length lanes ≤ 64 → map lane_number lanes ≡ range_with_len 0 (length lanes) → count ≡ length lanes
      → map (share seen) works ≡ map (first_share seen) lanes → IsRunRecorded seen hears count works old new → HearsMerge hears (map (rest seen) lanes) old new
  heard_of hears lanes works count old new few numbers counted shares all =
      let own : AllOwn all.taken = taken_own hears lanes works count old new numbers counted shares all in
      let merged = merged_of hears lanes works count old new few numbers counted shares all own in
      record {
        merge = merged.0;
        groups = groups_of all.taken own;
        parts = joined all.taken own ∙ merged.1;
        heard = subst hears (pieces_of_events all.taken own) all.heard;
        few =
            let size : length (events_of_parcels all.taken own) ≡ length merged.0.events = ap length merged.1 in
            let calls : calls_of all.taken ≤ length (events_of_parcels all.taken own) = calls_few all.taken own in
            omega (arith, all.few, calls, size);
      }

  -- all levels, and then what was left on the belt
  pub all_recorded : {L : Type 0} {keeps : L → L → List (List ℕ) → Type 0} (hears : L → L → List (List ℕ) → Type 0) (listener : L) (first between last : Caller L) (old mid new : Tape) (works : List (Work C))
      → first.begun.value ≡ listener
      → lots_taken first.taker ≡ []
      → settled_lanes first.taker ≡ []
      → GoesOn hears keeps first between old mid
      → Settles seen between.stopped works (settled_lanes first.taker) (settled_lanes between.taker)
      → GoesOn hears keeps between last mid new
      → settled_lanes last.taker ≡ settled_lanes between.taker
      → (last.stopped ≡ false → HasAll last.taker × IsOfLanes last.taker)
      → (last.stopped ≡ false → AllByRecursion (λ p. p.lot ≡ End NoMemory → ⊥) (lots_taken last.taker))
      → (last.stopped ≡ false → hears last.begun.value last.listener (pieces_of_lots (lots_taken last.taker)))
      → last.stopped ≡ false → new.fault ≡ None
      → IsRunRecorded seen (hears listener last.listener) (lane_count first.taker) works old new
  all_recorded {L = L} hears listener first between last old mid new works begun_with nothing none_settled levels (table, grown, each) left same empty well heard going no_fault =
      let all : settled_lanes last.taker ≡ table = same ∙ grown ∙ ap (λ l. table ++ l) none_settled ∙ append-nil table in
      let taken : List Parcel = lots_taken last.taker in
      let begun : HasAdded old.folder.told first old = λ _. subst (λ (l : List Parcel). Goes old.folder.told old.folder.told (Grown (bytes_recorded l))) (sym nothing) (goes_grown_none old.folder.told) in
      record {
        taken = taken;
        table = table;
        heard = subst (λ l. hears l last.listener (pieces_of_lots taken)) (ap (λ (c : Snapshot L). c.value) (left.begun ∙ levels.begun) ∙ begun_with) (heard going);
        added = left.added old.folder.told (levels.added old.folder.told begun) no_fault;
        few = left.counted old.clock (levels.counted old.clock (omega arith));
        entries = each (left.going going);
        accounts = subst (AllByRecursion (λ s. lots_of s.lane taken ≡ s.list)) all (empty going).0;
        well = well going;
        of_lanes = subst (λ (n : ℕ). AllByRecursion (λ (p : Parcel). p.lane < n) taken) (left.count ∙ levels.count) (empty going).1;
      }

-- with no lane nothing is added
nothing_added : (told : Option Folder) → AddsMerge [] told told
nothing_added told = record {
  events = [];
  added = goes_grown_none told;
  are_events = All-nil IsEvent;
  fit = All-nil Fits;
  of_lanes = All-nil (IsOfLaneBelow 0);
  merged = λ lists have. record { each = λ lane within. absurd (omega (arith, within, have.count)); of_lanes = All-nil (IsOfLaneBelow (length lists)) };
}

pub without_lanes : {C : Type 0} (seen : C → Seen Output) (hears : List (List ℕ) → Type 0) (lanes : List (Lane C)) (t : Tape) → length lanes ≡ 0 → hears [] → HearsMerge hears (map (rest seen) lanes) t t
unfolding nothing_added
without_lanes seen hears [] t empty nothing = record { merge = nothing_added t.folder.told; groups = []; parts = refl; heard = nothing; few = omega arith }
without_lanes seen hears (lane ∷ lanes) t empty nothing = absurd (omega (arith, empty))

-- where the lanes were not stopped
pub recorded_where : {T E No Going P : Type 0} (answer : Result T E) → OnOk answer (No → Going) → (Going → No → P) → OnOk answer (No → P)
recorded_where (Ok done) gives all = λ no. all (gives no) no
recorded_where (Err lack) gives all = tt

-- the same where it answered
pub heard_if : {C T E : Type 0} (seen : C → Seen Output) (hears : List (List ℕ) → Type 0) (answer : Result T E) (lanes : List (Lane C)) (works : List (Work C)) (count : ℕ) (fault : Option ShelfCall) (old new : Tape) → length lanes ≤ 64 → map lane_number lanes ≡ range_with_len 0 (length lanes) → count ≡ length lanes
    → map (share seen) works ≡ map (first_share seen) lanes → OnOk answer (fault ≡ None → IsRunRecorded seen hears count works old new) → OnOk answer (fault ≡ None → HearsMerge hears (map (rest seen) lanes) old new)
heard_if seen hears answer lanes works count fault old new few numbers counted shares all =
    on_ok_weaker answer (λ recorded no_fault. heard_of seen hears lanes works count old new few numbers counted shares (recorded no_fault)) all
