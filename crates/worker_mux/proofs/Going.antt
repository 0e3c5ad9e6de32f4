-- How a work goes on, lot by lot.
use Rattle.std.proofs.Common.{◌≡◌, ℕ, List, [], ◌∷◌, ◌++◌, Bool, false, ◌⊎◌, ⊎_elim, inl, inr, refl, sym, ◌∙◌, ap, subst, append_assoc}
use Rattle.std.specs.Prelude.{Option, None, Some, IfSome, All}
use Rattle.std.specs.Option.{option_map, option_to_list}
use Rattle.std.specs.List.{AllByRecursion, flat_map}
use Rattle.std.proofs.lemmas.List.{append-nil}
use Rattle.std.proofs.lemmas.List.Concat.{flat_map-append}
use Rattle.std.proofs.lemmas.List.Elements.{All-nil, All-cons}
use Rattle.packet_codec.specs.declared.event.Event.{Event}
use Rattle.packet_codec.specs.Canonical.{canonical, IsEvent, Fits}
use Rattle.packet_codec.specs.Routing.{under}
use Rattle.edge_io.specs.Children.{Output}
use Rattle.edge_io.specs.Seen.{Seen}
use Rattle.worker_lane.specs.Endings.{IsPacketOf}
use Rattle.worker_lane.specs.Lanes.{rest, lane_number, AppendsPacket}
use Rattle.worker_lane.specs.Rest.{GivesIfTold, IsEventOf, IsOver}
use Rattle.worker_lane.specs.declared.lane.Lane.{Lane}
use Rattle.worker_lane.specs.declared.lot.Ending.TheVariants.{NoMemory}
use Rattle.worker_lane.specs.declared.lot.Lot.{Lot}
use Rattle.worker_lane.specs.declared.lot.Lot.TheVariants.{Packet, End}
use Rattle.worker_mux.specs.Passes.{number_of, lots_put, settled_pass, IsPassFor}
use Rattle.worker_mux.specs.Callers.{packet_of}
use Rattle.worker_mux.specs.Packets.{IsWhole}
use Rattle.worker_mux.specs.Works.{AllWell, IsOwnPass, ArePacketsUnder, joined_packets, bytes_left, IsOwn, IsReady, lots_given, left, whole, KeepsWork, IsPut, Drives, Settles, Pairs, IsEntryOf}
use Rattle.worker_mux.specs.declared.belt.Belt.{Belt}
use Rattle.worker_mux.specs.declared.knowledge.Settled.{Settled}
use Rattle.worker_mux.specs.declared.belt_passes.LanePass.{LanePass}
use Rattle.worker_mux.specs.declared.work.Work.{Work}
use Rattle.worker_mux.specs.declared.work.Outcome.{Outcome}
use Rattle.worker_mux.specs.declared.work.Outcome.TheVariants.{Kept, Put, GivenUp}
use Rattle.worker_mux.proofs.Lists.{all_more}

well_front : (xs ys : List Lot) → AllWell (xs ++ ys) → AllWell xs
well_front [] ys all = tt
well_front (x ∷ xs) ys all = (all.0, well_front xs ys all.1)

well_last : (xs : List Lot) (x : Lot) → AllWell (xs ++ x ∷ []) → x ≡ End NoMemory → ⊥
well_last [] x all = all.0
well_last (y ∷ ys) x all = well_last ys x all.1

-- the lots before this one was well are those that were given before
well_before : (xs : List Lot) (lot : Lot) (kept : Option Lot) → IfSome kept (λ k. Some lot ≡ Some k) → AllWell (xs ++ lot ∷ []) → AllWell (xs ++ option_to_list kept)
well_before xs lot None first all = subst AllWell (sym (append-nil xs)) (well_front xs (lot ∷ []) all)
well_before xs lot (Some k) first all = subst (λ (l : Lot). AllWell (xs ++ l ∷ [])) (let same : lot ≡ k = cc in same) all

-- ---- packets that are joined

-- one packet is the first of those that are joined
pub own_first : (lane : ℕ) (packet : List ℕ) → IsPacketOf lane packet → ArePacketsUnder lane packet
own_first lane packet is = record {
  events = under lane is.event ∷ [];
  packets_are = is.packet_is ∙ sym (append-nil (canonical (under lane is.event)));
  under = (record { inner = is.event; event_is = refl; is_event = is.is_event; fits = is.fits }, tt);
}

-- and one is joined to them
pub own_more : (lane : ℕ) (old packet new : List ℕ) → ArePacketsUnder lane old → IsPacketOf lane packet → new ≡ old ++ packet → ArePacketsUnder lane new
own_more lane old packet new own is appended = record {
  events = own.events ++ under lane is.event ∷ [];
  packets_are =
      appended
      ∙ (λ i. own.packets_are i ++ is.packet_is i)
      ∙ ap (λ (l : List ℕ). flat_map canonical own.events ++ l) (sym (append-nil (canonical (under lane is.event))))
      ∙ sym (flat_map-append canonical own.events (under lane is.event ∷ []));
  under = all_more (IsEventOf lane) own.events (under lane is.event) own.under (record { inner = is.event; event_is = refl; is_event = is.is_event; fits = is.fits });
}

-- packets under a lane are whole
pub own_whole : (lane : ℕ) (lot : Lot) → IsOwn lane lot → IsWhole lot
own_whole lane (End how) own = tt
own_whole lane (Packet packets) own = (
  own.0.events,
  record {
    are_events = each IsEvent (λ e is. is.is_event) own.0.events own.0.under;
    fit = each Fits (λ e is. is.fits) own.0.events own.0.under;
    packets = own.0.packets_are;
  },
)
  where
    each : (P : Event → Type 0) → ((e : Event) → IsEventOf lane e → P e) → (events : List Event) → AllByRecursion (IsEventOf lane) events → All P events
    each P one [] under = All-nil P
    each P one (e ∷ events) under = All-cons P e events (one e under.0) (each P one events under.1)

-- what is left is so much less
gives_packet : (start : Option (List ℕ)) (old packet new : List ℕ) (before after : Option (List Lot)) → new ≡ old ++ packet → before ≡ option_map (λ l. (Packet packet ∷ []) ++ l) after
    → start ≡ option_map (λ l. old ++ l) (option_map joined_packets before) → start ≡ option_map (λ l. new ++ l) (option_map joined_packets after)
gives_packet start old packet new before None appended is so_far = so_far ∙ ap (λ (o : Option (List Lot)). option_map (λ l. old ++ l) (option_map joined_packets o)) is
gives_packet start old packet new before (Some r) appended is so_far =
    so_far
    ∙ ap (λ (o : Option (List Lot)). option_map (λ l. old ++ l) (option_map joined_packets o)) is
    ∙ ap Some (sym (append_assoc old packet (joined_packets r)) ∙ ap (λ (l : List ℕ). l ++ joined_packets r) (sym appended))

-- the same of lots that are not joined
gives_bytes : (before after : Option (List Lot)) (given : List Lot) → GivesIfTold before given after → GivesIfTold (option_map joined_packets before) (joined_packets given) (option_map joined_packets after)
gives_bytes before None given is = ap (option_map joined_packets) is
gives_bytes before (Some r) given is = ap (option_map joined_packets) is ∙ ap Some (flat_map-append packet_of given r)

over_bytes : (left : Option (List Lot)) → IsOver left → IsOver (option_map joined_packets left)
over_bytes None over = tt
over_bytes (Some l) over = ap joined_packets over

-- the bytes of all lots, before and after one went on
whole_step : (P PA KA KM L : List ℕ) (before R : Option (List ℕ)) → before ≡ option_map (λ l. L ++ l) (option_map (λ l. KM ++ l) R) → KM ≡ []
    → ((l : List ℕ) → PA ++ (KA ++ l) ≡ P ++ (L ++ l)) → option_map (λ l. PA ++ l) (option_map (λ l. KA ++ l) R) ≡ option_map (λ l. P ++ l) before
whole_step P PA KA KM L before None is empty all = ap (option_map (λ l. P ++ l)) (sym is)
whole_step P PA KA KM L before (Some r) is empty all =
    ap Some (all r) ∙ ap (λ (k : List ℕ). Some (P ++ (L ++ (k ++ r)))) (sym empty) ∙ ap (option_map (λ l. P ++ l)) (sym is)

-- nothing is left
whole_end : (P : List ℕ) (before mid : Option (List ℕ)) → before ≡ option_map (λ l. [] ++ l) mid → IsOver mid → IfSome (option_map (λ l. P ++ l) before) (λ l. P ≡ l)
whole_end P before None is over = subst (λ (o : Option (List ℕ)). IfSome (option_map (λ l. P ++ l) o) (λ l. P ≡ l)) (sym is) tt
whole_end P before (Some r) is over =
    subst (λ (o : Option (List ℕ)). IfSome (option_map (λ l. P ++ l) o) (λ l. P ≡ l)) (sym is) (sym (append-nil P) ∙ ap (λ l. P ++ l) (sym over))

more_own : (n m : ℕ) (xs ys : List Lot) (lot : Lot) → m ≡ n → ys ≡ xs ++ lot ∷ [] → AllByRecursion (IsOwn n) xs → IsOwn n lot → AllByRecursion (IsOwn m) ys
more_own n m xs ys lot number more own last =
    subst (λ (k : ℕ). AllByRecursion (IsOwn k) ys) (sym number) (subst (AllByRecursion (IsOwn n)) (sym more) (all_more (IsOwn n) xs lot own last))

module _ {C : Type 0} where
  -- the work stays ready where a lot was put
  pub ready_put : (belt : Belt) (before mid : Work C) (after : LanePass) (lot : Lot) → IsReady belt before → mid.pass ≡ before.pass → lane_number mid.lane ≡ lane_number before.lane → mid.kept ≡ None → IsOwn (number_of before.pass) lot
      → IsPassFor belt after → number_of after ≡ number_of mid.pass → lots_put after ≡ lots_put mid.pass ++ lot ∷ []
      → IsReady belt (record { lane = mid.lane; pass = after; kept = mid.kept })
  ready_put belt before mid after lot ready pass lane empty own made_here number more =
      let n : number_of after ≡ number_of before.pass = number ∙ ap number_of pass in
      record {
        pass = record {
          made_here = made_here;
          own = more_own (number_of before.pass) (number_of after) (lots_put before.pass) (lots_put after) lot n (more ∙ ap (λ (p : LanePass). lots_put p ++ lot ∷ []) pass) ready.pass.own own;
        };
        number = lane ∙ ready.number ∙ sym n;
        kept = subst (λ (k : Option Lot). IfSome k (IsOwn (number_of after))) (sym empty) tt;
      }

  -- the same where the lot was handed back
  pub ready_kept : (belt : Belt) (before mid : Work C) (after : LanePass) (lot back : Lot) → IsReady belt before → mid.pass ≡ before.pass → lane_number mid.lane ≡ lane_number before.lane → IsOwn (number_of before.pass) lot
      → IsPassFor belt after → number_of after ≡ number_of mid.pass → lots_put after ≡ lots_put mid.pass → back ≡ lot
      → IsReady belt (record { lane = mid.lane; pass = after; kept = Some back })
  ready_kept belt before mid after lot back ready pass lane own made_here number same is =
      let n : number_of after ≡ number_of before.pass = number ∙ ap number_of pass in
      record {
        pass = record {
          made_here = made_here;
          own = subst (λ (k : ℕ). AllByRecursion (IsOwn k) (lots_put after)) (sym n) (subst (AllByRecursion (IsOwn (number_of before.pass))) (sym (same ∙ ap lots_put pass)) ready.pass.own);
        };
        number = lane ∙ ready.number ∙ sym n;
        kept = subst (λ (k : ℕ). IsOwn k back) (sym n) (subst (IsOwn (number_of before.pass)) (sym is) own);
      }

module _ {C : Type 0} (seen : C → Seen Output) where
  -- one packet more was joined
  pub joins_more : (lane : ℕ) (before after : Lane C) (old new : List ℕ) → lane_number before ≡ lane → ArePacketsUnder lane old → AppendsPacket seen before old after new → ArePacketsUnder lane new
  joins_more lane before after old new number own more = own_more lane old more.packet new own (subst (λ (n : ℕ). IsPacketOf n more.packet) number more.under) more.appended

  pub gives_more : (before after : Lane C) (old new : List ℕ) (start : Option (List ℕ)) → AppendsPacket seen before old after new → GivesIfTold start old (bytes_left seen before) → GivesIfTold start new (bytes_left seen after)
  gives_more before after old new start more so_far = gives_packet start old more.packet new (rest seen before) (rest seen after) more.appended more.left so_far

  pub gives_same : (before after : Lane C) (old new : List ℕ) (start : Option (List ℕ)) → (after ≡ before) × (new ≡ old) → GivesIfTold start old (bytes_left seen before) → GivesIfTold start new (bytes_left seen after)
  gives_same before after old new start same so_far =
      subst (λ (l : List ℕ). GivesIfTold start l (bytes_left seen after)) (sym same.1) (subst (λ (lane : Lane C). GivesIfTold start old (bytes_left seen lane)) (sym same.0) so_far)

  -- the lane's lot, and what was joined to it
  pub step_gives : (start before : Lane C) (after : Lane C) (lot whole : Lot) → (Some lot ≡ Some (End NoMemory)) ⊎ GivesIfTold (rest seen start) (lot ∷ []) (rest seen before)
      → ((o : Option (List ℕ)) → GivesIfTold o (packet_of lot) (bytes_left seen before) → GivesIfTold o (packet_of whole) (bytes_left seen after)) → (lot ≡ End NoMemory → whole ≡ End NoMemory)
      → (Some whole ≡ Some (End NoMemory)) ⊎ GivesIfTold (bytes_left seen start) (joined_packets (whole ∷ [])) (bytes_left seen after)
  step_gives start before after lot whole (inl out) joins lack = inl (ap Some (lack (let same : lot ≡ End NoMemory = cc in same)))
  step_gives start before after lot whole (inr g) joins lack =
      let one : GivesIfTold (bytes_left seen start) (packet_of lot) (bytes_left seen before) = subst (λ (l : List ℕ). GivesIfTold (bytes_left seen start) l (bytes_left seen before)) (append-nil (packet_of lot)) (gives_bytes (rest seen start) (rest seen before) (lot ∷ []) g) in
      inr (subst (λ (l : List ℕ). GivesIfTold (bytes_left seen start) l (bytes_left seen after)) (sym (append-nil (packet_of whole))) (joins (bytes_left seen start) one))

  pub step_over : (lane : Lane C) → IsOver (rest seen lane) → IsOver (bytes_left seen lane)
  step_over lane over = over_bytes (rest seen lane) over

  -- a lot was put, or kept
  went_on : (start before mid after : Work C) (lot : Lot) → KeepsWork seen start before → mid.kept ≡ None → IfSome before.kept (λ k. Some lot ≡ Some k)
      → (Some lot ≡ Some (End NoMemory)) ⊎ GivesIfTold (left seen before) (joined_packets (lot ∷ [])) (left seen mid)
      → after.lane ≡ mid.lane → number_of after.pass ≡ number_of before.pass → lots_given after ≡ lots_put before.pass ++ lot ∷ []
      → ((l : List ℕ) → joined_packets (lots_put after.pass) ++ (joined_packets (option_to_list after.kept) ++ l) ≡ joined_packets (lots_put before.pass) ++ (joined_packets (lot ∷ []) ++ l))
      → KeepsWork seen start after
  went_on start before mid after lot keeps empty first gives lane number all each =
      let well : AllWell (lots_given after) → AllWell (lots_given before) = λ so. well_before (lots_put before.pass) lot before.kept first (subst AllWell all so) in
      record {
        number = number ∙ keeps.number;
        well = λ so. keeps.well (well so);
        same = λ so. ⊎_elim
            (λ (out : Some lot ≡ Some (End NoMemory)). absurd (well_last (lots_put before.pass) lot (subst AllWell all so) (let same : lot ≡ End NoMemory = cc in same)))
            (λ (g : GivesIfTold (left seen before) (joined_packets (lot ∷ [])) (left seen mid)).
            ap (λ (l : Lane C). option_map (λ x. joined_packets (lots_put after.pass) ++ x) (option_map (λ x. joined_packets (option_to_list after.kept) ++ x) (bytes_left seen l))) lane
            ∙ whole_step (joined_packets (lots_put before.pass)) (joined_packets (lots_put after.pass)) (joined_packets (option_to_list after.kept)) (joined_packets (option_to_list mid.kept)) (joined_packets (lot ∷ [])) (left seen before) (bytes_left seen mid.lane) g (ap (λ (k : Option Lot). joined_packets (option_to_list k)) empty) each
            ∙ keeps.same (well so))
            gives;
      }

  -- the belt took the lot
  pub was_put : (start before mid : Work C) (after : LanePass) (lot : Lot) → KeepsWork seen start before → mid.pass ≡ before.pass → mid.kept ≡ None → IfSome before.kept (λ k. Some lot ≡ Some k)
      → (Some lot ≡ Some (End NoMemory)) ⊎ GivesIfTold (left seen before) (joined_packets (lot ∷ [])) (left seen mid)
      → number_of after ≡ number_of mid.pass → lots_put after ≡ lots_put mid.pass ++ lot ∷ []
      → KeepsWork seen start (record { lane = mid.lane; pass = after; kept = mid.kept })
  was_put start before mid after lot keeps pass empty first gives number more =
      let grown : lots_put after ≡ lots_put before.pass ++ lot ∷ [] = more ∙ ap (λ (p : LanePass). lots_put p ++ lot ∷ []) pass in
      went_on start before mid (record { lane = mid.lane; pass = after; kept = mid.kept }) lot keeps empty first gives refl
      (number ∙ ap number_of pass)
      (ap (λ (k : Option Lot). lots_put after ++ option_to_list k) empty ∙ append-nil (lots_put after) ∙ grown)
      (λ l. ap (λ (k : Option Lot). joined_packets (lots_put after) ++ (joined_packets (option_to_list k) ++ l)) empty ∙ ap (λ x. joined_packets x ++ l) grown ∙ ap (λ (b : List ℕ). b ++ l) (flat_map-append packet_of (lots_put before.pass) (lot ∷ [])) ∙ append_assoc (joined_packets (lots_put before.pass)) (joined_packets (lot ∷ [])) l)

  -- the belt handed the lot back
  pub was_kept : (start before mid : Work C) (after : LanePass) (lot back : Lot) → KeepsWork seen start before → mid.pass ≡ before.pass → mid.kept ≡ None → IfSome before.kept (λ k. Some lot ≡ Some k)
      → (Some lot ≡ Some (End NoMemory)) ⊎ GivesIfTold (left seen before) (joined_packets (lot ∷ [])) (left seen mid)
      → number_of after ≡ number_of mid.pass → lots_put after ≡ lots_put mid.pass → back ≡ lot
      → KeepsWork seen start (record { lane = mid.lane; pass = after; kept = Some back })
  was_kept start before mid after lot back keeps pass empty first gives number same is =
      let stays : lots_put after ≡ lots_put before.pass = same ∙ ap lots_put pass in
      went_on start before mid (record { lane = mid.lane; pass = after; kept = Some back }) lot keeps empty first gives refl
      (number ∙ ap number_of pass)
      (ap (λ x. x ++ back ∷ []) stays ∙ ap (λ (b : Lot). lots_put before.pass ++ b ∷ []) is)
      (λ l. ap (λ x. joined_packets x ++ (joined_packets (back ∷ []) ++ l)) stays ∙ ap (λ (b : Lot). joined_packets (lots_put before.pass) ++ (joined_packets (b ∷ []) ++ l)) is)

  -- the lane gave no lot more
  pub all_put : (start before mid : Work C) → KeepsWork seen start before → mid.pass ≡ before.pass → IfSome before.kept (λ k. None ≡ Some k)
      → (None ≡ Some (End NoMemory)) ⊎ GivesIfTold (left seen before) [] (left seen mid) → IsOver (left seen mid)
      → IsPut seen start mid.pass
  all_put start before mid keeps pass first gives over =
      let well : AllWell (lots_put mid.pass) → AllWell (lots_given before) = λ so. well_end (lots_put before.pass) before.kept first (subst (λ (p : LanePass). AllWell (lots_put p)) pass so) in
      record {
        number = ap number_of pass ∙ keeps.number;
        well = λ so. keeps.well (well so);
        all = λ so. ⊎_elim
            (λ (out : ◌≡◌ {A = Option Lot} None (Some (End NoMemory))). absurd (let never : ⊥ = cc in never))
            (λ (g : GivesIfTold (left seen before) [] (left seen mid)).
            subst (λ (p : LanePass). IfSome (whole seen start) (λ l. joined_packets (lots_put p) ≡ l)) (sym pass)
            (subst (λ (o : Option (List ℕ)). IfSome o (λ l. joined_packets (lots_put before.pass) ≡ l)) (keeps.same (well so))
            (whole_end (joined_packets (lots_put before.pass)) (left seen before) (left seen mid) g over)))
            gives;
      }
    where
      well_end : (xs : List Lot) (kept : Option Lot) → IfSome kept (λ k. None ≡ Some k) → AllWell xs → AllWell (xs ++ option_to_list kept)
      well_end xs None first all = subst AllWell (sym (append-nil xs)) all
      well_end xs (Some k) first all = absurd (let never : ⊥ = cc in never)

  -- driving goes on
  pub drives_then : (a b : Work C) (outcome : Outcome C) → KeepsWork seen a b → Drives seen b outcome → Drives seen a outcome
  drives_then a b (Kept c) first second = record {
    number = second.number ∙ first.number;
    well = λ so. first.well (second.well so);
    same = λ so. second.same so ∙ first.same (second.well so);
  }
  drives_then a b (Put pass) first second = record {
    number = second.number ∙ first.number;
    well = λ so. first.well (second.well so);
    all = λ so. subst (λ (o : Option (List ℕ)). IfSome o (λ l. joined_packets (lots_put pass) ≡ l)) (first.same (second.well so)) (second.all so);
  }
  drives_then a b (GivenUp pass) first second = second ∙ first.number

  -- one lane more is settled
  pub settles_more : (work : Work C) (works others : List (Work C)) (pass : LanePass) (m m' : Bool) (first old mid last new : List Settled)
      → works ≡ work ∷ others → first ≡ old → Settles seen m others first mid → last ≡ mid → new ≡ settled_pass pass ∷ last
      → (m' ≡ false → m ≡ false) → AllByRecursion (IsOwn (number_of pass)) (lots_put pass) → number_of pass ≡ number_of work.pass → (m' ≡ false → IsPut seen work pass)
      → Settles seen m' works old new
  settles_more work works others pass m m' first old mid last new all begin (table, grown, each) same more memory own number put_all = (
    settled_pass pass ∷ table,
    more ∙ ap (λ l. settled_pass pass ∷ l) (same ∙ grown ∙ ap (λ l. table ++ l) begin),
    λ so. subst (λ (l : List (Work C)). Pairs (IsEntryOf seen) l (settled_pass pass ∷ table)) (sym all) (record { lane = number; own = own; list = λ well. (put_all so).all well }, each (memory so)),
  )

  pub settles_none : (works : List (Work C)) (m : Bool) (old new : List Settled) → works ≡ [] → new ≡ old → Settles seen m works old new
  settles_none works m old new empty same = ([], same, λ so. subst (λ (l : List (Work C)). Pairs (IsEntryOf seen) l []) (sym empty) tt)

-- ---- a turn that gave no lot

kept_none : (kept : Option Lot) → IfSome kept (λ k. None ≡ Some k) → kept ≡ None
kept_none None first = refl
kept_none (Some k) first = absurd cc

front_none : (left : Option (List ℕ)) → option_map (λ l. [] ++ l) left ≡ left
front_none None = refl
front_none (Some l) = refl

same_left : (before mid : Option (List ℕ)) → (None ≡ Some (End NoMemory)) ⊎ GivesIfTold before [] mid → mid ≡ before
same_left before mid (inl out) = absurd cc
same_left before mid (inr g) = sym (g ∙ front_none mid)

module _ {C : Type 0} where
  pub ready_read : (belt : Belt) (before mid : Work C) → IsReady belt before → mid.pass ≡ before.pass → lane_number mid.lane ≡ lane_number before.lane → mid.kept ≡ None → IsReady belt mid
  ready_read belt before mid ready pass lane empty = record {
    pass = subst (IsOwnPass belt) (sym pass) ready.pass;
    number = lane ∙ ready.number ∙ ap number_of (sym pass);
    kept = subst (λ (k : Option Lot). IfSome k (IsOwn (number_of mid.pass))) (sym empty) tt;
  }

module _ {C : Type 0} (seen : C → Seen Output) where
  pub was_read : (start before mid : Work C) → KeepsWork seen start before → mid.pass ≡ before.pass → mid.kept ≡ None → IfSome before.kept (λ k. None ≡ Some k)
      → (None ≡ Some (End NoMemory)) ⊎ GivesIfTold (left seen before) [] (left seen mid) → KeepsWork seen start mid
  was_read start before mid keeps pass empty first gives =
      let same : lots_given mid ≡ lots_given before =
      ap (λ (p : LanePass). lots_put p ++ option_to_list mid.kept) pass
      ∙ ap (λ (k : Option Lot). lots_put before.pass ++ option_to_list k) (empty ∙ sym (kept_none before.kept first)) in
      let all : whole seen mid ≡ whole seen before =
      ap (λ (p : LanePass). option_map (λ l. joined_packets (lots_put p) ++ l) (left seen mid)) pass
      ∙ ap (λ (o : Option (List ℕ)). option_map (λ l. joined_packets (lots_put before.pass) ++ l) o) (same_left (left seen before) (left seen mid) gives) in
      record {
        number = ap number_of pass ∙ keeps.number;
        well = λ so. keeps.well (subst AllWell same so);
        same = λ so. all ∙ keeps.same (subst AllWell same so);
      }
