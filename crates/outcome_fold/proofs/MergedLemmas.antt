-- Merges of the same lists agree route by route, since each route is in one lane at most.
use Rattle.std.proofs.Common.{◌≡◌, ℕ, zero, suc, ◌<◌, ◌≤◌, ◌⊎◌, inl, inr, Bool, true, false, true≢false, Option, List, [], length, refl, sym, ◌∙◌, ap, arith}
use Rattle.std.proofs.lemmas.Bool.{cases_lt}
use Rattle.std.proofs.lemmas.List.Elements.{All-weaker}
use Rattle.packet_codec.specs.declared.event.Event.{Event}
use Rattle.packet_codec.specs.Lanes.{is_in_lane, is_of_lane, of_lane, IsOfLaneBelow, joined, IsMerge}
use Rattle.packet_codec.proofs.FilterLemmas.{not_true, filter_none, filter_within}
use Rattle.packet_codec.proofs.MergeLemmas.{joined_merges_too}
use Rattle.outcome_fold.specs.Routes.{is_of_route, of_route, AgreeByRoute, SaySame}
use Rattle.outcome_fold.proofs.OrderLemmas.{exact_routes}
use Rattle.outcome_fold.proofs.TableLemmas.{tied_is}
use Rattle.outcome_fold.proofs.RouteLemmas.{say_same}

abbrev InLaneBelow : ℕ → Option (List ℕ) → Type 0
InLaneBelow count route = (lane : ℕ) × (lane < count) × (is_in_lane lane route ≡ true)

not_below : (count : ℕ) (route : Option (List ℕ)) → is_in_lane count route ≡ false → (InLaneBelow count route → ⊥) → InLaneBelow (suc count) route → ⊥
not_below count route other never found = elim (cases_lt found.0 count) [
  | inl below ↦ never (found.0, below, found.2)
  | inr beyond ↦
      let last : found.0 ≡ count = omega (arith, found.1, beyond) in
      true≢false (sym found.2 ∙ ap (λ lane. is_in_lane lane route) last ∙ other)
]

lane_more : (count : ℕ) (route : Option (List ℕ)) (b : Bool) → is_in_lane count route ≡ b → InLaneBelow count route ⊎ (InLaneBelow count route → ⊥) → InLaneBelow (suc count) route ⊎ (InLaneBelow (suc count) route → ⊥)
lane_more count route true is rest = inl (count, omega arith, is)
lane_more count route false is (inl found) = inl (found.0, omega (arith, found.1), found.2)
lane_more count route false is (inr never) = inr (not_below count route is never)

-- the route is in one of the lanes, or in none
in_lane_or_not : (count : ℕ) (route : Option (List ℕ)) → InLaneBelow count route ⊎ (InLaneBelow count route → ⊥)
in_lane_or_not zero route = inr (λ found. absurd (omega (arith, found.1)))
in_lane_or_not (suc count) route = lane_more count route (is_in_lane count route) refl (in_lane_or_not count route)

-- an event of the route is in the route's lane
lane_of_route : (lane : ℕ) (route : Option (List ℕ)) (e : Event) → is_in_lane lane route ≡ true → is_of_route route e ≡ true → is_of_lane lane e ≡ true
lane_of_route lane route e is same = ap (is_in_lane lane) (sym (tied_is exact_routes route e.route same)) ∙ is

route_in_lane : (events : List Event) (lane : ℕ) (route : Option (List ℕ)) → is_in_lane lane route ≡ true → of_route route (of_lane lane events) ≡ of_route route events
route_in_lane events lane route is = filter_within (is_of_route route) (is_of_lane lane) (λ e same. lane_of_route lane route e is same) events

route_in_none : (events : List Event) (lists : List (List Event)) (route : Option (List ℕ)) → IsMerge events lists → (InLaneBelow (length lists) route → ⊥) → of_route route events ≡ []
route_in_none events lists route merge never =
    filter_none (is_of_route route) events (All-weaker (IsOfLaneBelow (length lists)) (λ e. is_of_route route e ≡ false) (λ e own. not_true (is_of_route route e) (λ same.
    never (own.0, own.1, ap (is_in_lane own.0) (tied_is exact_routes route e.route same) ∙ own.2))) events merge.of_lanes)

agree_at : (events others : List Event) (lists : List (List Event)) → IsMerge events lists → IsMerge others lists → (route : Option (List ℕ)) → InLaneBelow (length lists) route ⊎ (InLaneBelow (length lists) route → ⊥) → of_route route events ≡ of_route route others
agree_at events others lists merge also route (inl found) =
    sym (route_in_lane events found.0 route found.2) ∙ ap (of_route route) (merge.each found.0 found.1 ∙ sym (also.each found.0 found.1)) ∙ route_in_lane others found.0 route found.2
agree_at events others lists merge also route (inr never) = route_in_none events lists route merge never ∙ sym (route_in_none others lists route also never)

pub merges_agree : (events others : List Event) (lists : List (List Event)) → IsMerge events lists → IsMerge others lists → AgreeByRoute events others
merges_agree events others lists merge also route = agree_at events others lists merge also route (in_lane_or_not (length lists) route)

pub merge_says_same : (events : List Event) (lists : List (List Event)) → length lists ≤ 64 → IsMerge events lists → SaySame events (joined lists)
merge_says_same events lists few merge = say_same events (joined lists) (merges_agree events (joined lists) lists merge (joined_merges_too events lists few merge))
