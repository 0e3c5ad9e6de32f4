-- Events by lanes: no event is of two, and lists of lanes one after another are merged.
use Rattle.std.proofs.Common.{◌≡◌, ◌≢◌, ℕ, zero, suc, ◌+◌, ◌/◌, ◌%◌, ◌<◌, ◌≤◌, Bool, true, false, true≢false, not, nat_eq, cond, inl, inr, Option, Some, None, IfSome, List, [], ◌∷◌, ◌++◌, map, length, get_or, refl, sym, ◌∙◌, ap, subst, append_assoc, arith}
use Rattle.std.specs.List.{All, filter, take_while}
use Rattle.std.specs.Fmt.{decimal}
use Rattle.std.specs.Str.Parse.{digits_value}
use Rattle.std.specs.Cmp.Lexicographic.{pointwise, same_text}
use Rattle.std.proofs.lemmas.Cmp.{nat_list_eq_equiv}
use Rattle.std.proofs.lemmas.Bool.{cases_lt}
use Rattle.std.proofs.lemmas.Bool.Decides.{nat_tests}
use Rattle.std.proofs.lemmas.Fmt.{decimal_digit, decimal_is_IsNumeral}
use Rattle.std.proofs.lemmas.List.{length-map, get_or-map, append-nil}
use Rattle.std.proofs.lemmas.List.Elements.{All-nil, All-cons, All-head, All-tail, All-weaker, All-append, filter-append, filter_passes}
use Rattle.std.proofs.lemmas.List.Sums.{take_while-cons}
use Rattle.packet_codec.specs.declared.event.Event.{Event}
use Rattle.packet_codec.specs.Canonical.{IsEvent, Fits}
use Rattle.packet_codec.specs.Routing.{route_under}
use Rattle.packet_codec.specs.Lanes.{lane_name, is_in_lane, is_of_lane, of_lane, AreOfLane, IsOfLaneBelow, list_of, joined, IsMerge, IsMergeOfTold}
use Rattle.packet_codec.proofs.RoutingLemmas.{decimal_two}
use Rattle.packet_codec.proofs.FilterLemmas.{not_true, filter_all, filter_none}

-- ---- the lane of a route

same_number : (m n : ℕ) → m < 64 → n < 64 → decimal m ≡ decimal n → m ≡ n
same_number m n small also same = sym (decimal_is_IsNumeral m (omega arith)).1 ∙ ap (digits_value 10) same ∙ (decimal_is_IsNumeral n (omega arith)).1

pub in_one_lane : (m n : ℕ) (route : Option (List ℕ)) → m < 64 → n < 64 → is_in_lane m route ≡ true → is_in_lane n route ≡ true → m ≡ n
in_one_lane m n None small also is same = absurd (true≢false (sym is))
in_one_lane m n (Some route) small also is same = same_number m n small also (sym (same_text _ _ (sym is)) ∙ same_text _ _ (sym same))

abbrev is_plain : ℕ → Bool
is_plain byte = not (nat_eq byte 47)

digit_is_plain : (digit : ℕ) → is_plain (48 + digit) ≡ true
digit_is_plain digit = grind (arith, nat_tests)

-- bytes without a slash stand before the first slash
plain_front : (byte : ℕ) (bytes front : List ℕ) → is_plain byte ≡ true → take_while is_plain bytes ≡ front → take_while is_plain (byte ∷ bytes) ≡ byte ∷ front
plain_front byte bytes front plain rest = take_while-cons is_plain byte bytes ∙ ap (λ b. cond b (byte ∷ take_while is_plain bytes) []) plain ∙ ap (λ l. byte ∷ l) rest

lane_is_named : (lane : ℕ) (bytes : List ℕ) → lane < 64 → lane_name bytes ≡ [] → lane_name (decimal lane ++ bytes) ≡ decimal lane
lane_is_named lane bytes small none = elim (cases_lt lane 10) [
  | inl one ↦ rw (decimal_digit lane one) (plain_front (48 + lane) bytes [] (digit_is_plain lane) none)
  | inr two ↦
      let digits : decimal lane ≡ (48 + lane / 10) ∷ (48 + lane % 10) ∷ [] = decimal_two lane two (omega arith) in
      rw digits (plain_front (48 + lane / 10) ((48 + lane % 10) ∷ bytes) ((48 + lane % 10) ∷ []) (digit_is_plain (lane / 10)) (plain_front (48 + lane % 10) bytes [] (digit_is_plain (lane % 10)) none))
]

has_name : (lane : ℕ) (route : List ℕ) → lane_name route ≡ decimal lane → is_in_lane lane (Some route) ≡ true
has_name lane route is = ap (λ name. pointwise nat_eq name (decimal lane)) is ∙ nat_list_eq_equiv.refl (decimal lane)

-- under a lane a route is in that lane
pub under_is_in_lane : (lane : ℕ) (route : Option (List ℕ)) → lane < 64 → is_in_lane lane (Some (route_under lane route)) ≡ true
under_is_in_lane lane None small = has_name lane (decimal lane) (ap lane_name (sym (append-nil (decimal lane))) ∙ lane_is_named lane [] small refl)
under_is_in_lane lane (Some route) small = has_name lane (route_under lane (Some route)) (ap lane_name (append_assoc (decimal lane) (47 ∷ []) route) ∙ lane_is_named lane (47 ∷ route) small (take_while-cons is_plain 47 route))

-- ---- lists of lanes

-- what is all of one lane has nothing of another
none_of_other : (m n : ℕ) (events : List Event) → m < 64 → n < 64 → m ≢ n → AreOfLane m events → of_lane n events ≡ []
none_of_other m n events small also other are =
    filter_none (is_of_lane n) events (All-weaker (λ e. is_of_lane m e ≡ true) (λ e. is_of_lane n e ≡ false) (λ e is. not_true (is_of_lane n e) (λ same. other (in_one_lane m n e.route small also is same))) events are)

-- the lists are those of the lanes from this one on
abbrev AreFrom : ℕ → List (List Event) → Type 0
AreFrom first lists = (i lane : ℕ) → lane ≡ first + i → i < length lists → AreOfLane lane (get_or lists i [])

rest_are : (first : ℕ) (events : List Event) (lists : List (List Event)) → AreFrom first (events ∷ lists) → AreFrom (suc first) lists
rest_are first events lists are i lane is below = are (suc i) lane (omega arith) (omega arith)

none_below : (n first : ℕ) (lists : List (List Event)) → n < first → first + length lists ≤ 64 → AreFrom first lists → of_lane n (joined lists) ≡ []
none_below n first [] below few are = refl
none_below n first (events ∷ lists) below few are =
    filter-append (is_of_lane n) events (joined lists)
    ∙ ap (λ l. l ++ of_lane n (joined lists)) (none_of_other first n events (omega arith) (omega arith) (λ same. omega arith) (are 0 first (omega arith) (omega arith)))
    ∙ none_below n (suc first) lists (omega arith) (omega arith) (rest_are first events lists are)

lane_of_joined : (first i n : ℕ) (lists : List (List Event)) → n ≡ first + i → i < length lists → first + length lists ≤ 64 → AreFrom first lists → of_lane n (joined lists) ≡ get_or lists i []
lane_of_joined first i n [] is below few are = absurd (omega arith)
lane_of_joined first zero n (events ∷ lists) is below few are =
    filter-append (is_of_lane n) events (joined lists)
    ∙ ap (λ l. of_lane n events ++ l) (none_below n (suc first) lists (omega arith) (omega arith) (rest_are first events lists are))
    ∙ append-nil (of_lane n events)
    ∙ filter_all (is_of_lane n) events (are 0 n is below)
lane_of_joined first (suc i) n (events ∷ lists) is below few are =
    filter-append (is_of_lane n) events (joined lists)
    ∙ ap (λ l. l ++ of_lane n (joined lists)) (none_of_other first n events (omega arith) (omega arith) (λ same. omega arith) (are 0 first (omega arith) (omega arith)))
    ∙ lane_of_joined (suc first) i n lists (omega arith) (omega arith) (omega arith) (rest_are first events lists are)

joined_of_lanes : (first count : ℕ) (lists : List (List Event)) → first + length lists ≤ count → AreFrom first lists → All (IsOfLaneBelow count) (joined lists)
joined_of_lanes first count [] few are = All-nil (IsOfLaneBelow count)
joined_of_lanes first count (events ∷ lists) few are =
    All-append (IsOfLaneBelow count) events (joined lists)
    (All-weaker (λ e. is_of_lane first e ≡ true) (IsOfLaneBelow count) (λ e is. (first, omega arith, is)) events (are 0 first (omega arith) (omega arith)))
    (joined_of_lanes (suc first) count lists (omega arith) (rest_are first events lists are))

-- lists that are each of its lane, one after another, are merged
pub joined_is_merge : (lists : List (List Event)) → length lists ≤ 64 → ((lane : ℕ) → lane < length lists → AreOfLane lane (list_of lists lane)) → IsMerge (joined lists) lists
joined_is_merge lists few are =
    let from : AreFrom 0 lists = λ i lane is below. subst (λ n. AreOfLane n (get_or lists i [])) (omega arith) (are i below) in
    record {
      each = λ lane below. lane_of_joined 0 lane lane lists (omega arith) below (omega arith) from;
      of_lanes = joined_of_lanes 0 (length lists) lists (omega arith) from;
    }

-- the lists of a merge are each of its lane
pub lists_are_of_lanes : (events : List Event) (lists : List (List Event)) → IsMerge events lists → (lane : ℕ) → lane < length lists → AreOfLane lane (list_of lists lane)
lists_are_of_lanes events lists merge lane below =
    subst (AreOfLane lane) (merge.each lane below) (filter_passes (is_of_lane lane) events)

-- so, one after another, they are merged too
pub joined_merges_too : (events : List Event) (lists : List (List Event)) → length lists ≤ 64 → IsMerge events lists → IsMerge (joined lists) lists
joined_merges_too events lists few merge = joined_is_merge lists few (lists_are_of_lanes events lists merge)

-- ---- neighbours of two lanes

turned_filter : (p : Event → Bool) (front behind : List Event) (d e : Event) → (p d ≡ true → p e ≡ false) → filter p (front ++ d ∷ e ∷ behind) ≡ filter p (front ++ e ∷ d ∷ behind)
turned_filter p [] behind d e apart = turned_at (p d) (p e) apart
  where
    turned_at : (b c : Bool) → (b ≡ true → c ≡ false) → cond b (d ∷ cond c (e ∷ filter p behind) (filter p behind)) (cond c (e ∷ filter p behind) (filter p behind)) ≡ cond c (e ∷ cond b (d ∷ filter p behind) (filter p behind)) (cond b (d ∷ filter p behind) (filter p behind))
    turned_at true true apart = absurd (true≢false (apart refl))
    turned_at true false apart = refl
    turned_at false c apart = refl
turned_filter p (x ∷ front) behind d e apart = ap (λ l. cond (p x) (x ∷ l) l) (turned_filter p front behind d e apart)

turned_all : (P : Event → Type 0) (front behind : List Event) (d e : Event) → All P (front ++ d ∷ e ∷ behind) → All P (front ++ e ∷ d ∷ behind)
turned_all P [] behind d e all =
    let rest : All P (e ∷ behind) = All-tail P d (e ∷ behind) all in
    All-cons P e (d ∷ behind) (All-head P e behind rest) (All-cons P d behind (All-head P d (e ∷ behind) all) (All-tail P e behind rest))
turned_all P (x ∷ front) behind d e all = All-cons P x (front ++ e ∷ d ∷ behind) (All-head P x (front ++ d ∷ e ∷ behind) all) (turned_all P front behind d e (All-tail P x (front ++ d ∷ e ∷ behind) all))

pub turned_is_merge : (front behind : List Event) (d e : Event) (m n : ℕ) (lists : List (List Event)) → length lists ≤ 64 → m < 64 → n < 64 → m ≢ n → is_of_lane m d ≡ true → is_of_lane n e ≡ true → IsMerge (front ++ d ∷ e ∷ behind) lists → IsMerge (front ++ e ∷ d ∷ behind) lists
turned_is_merge front behind d e m n lists few small also other is same merge = record {
  each = λ lane below.
      let small_too : lane < 64 = omega arith in
      sym (turned_filter (is_of_lane lane) front behind d e (λ of_d. not_true (is_of_lane lane e) (λ of_e.
      other (in_one_lane m lane d.route small small_too is of_d ∙ in_one_lane lane n e.route small_too also of_e same)))) ∙ merge.each lane below;
  of_lanes = turned_all (IsOfLaneBelow (length lists)) front behind d e merge.of_lanes;
}

-- ---- where all lists are told

pub merge_of_told : (events : List Event) (lists : List (List Event)) → IsMergeOfTold events (map Some lists) → IsMerge events lists
merge_of_told events lists merge =
    let count : length (map Some lists) ≡ length lists = length-map lists Some in
    record {
      each = λ lane below. subst (λ (list : Option (List Event)). IfSome list (λ list. of_lane lane events ≡ list)) (get_or-map Some lists lane [] None below) (merge.each lane (omega arith));
      of_lanes = subst (λ n. All (IsOfLaneBelow n) events) count merge.of_lanes;
    }

-- ---- what holds of each event of each list

filtered_at : (p : Event → Bool) (P : Event → Type 0) (x : Event) (xs : List Event) (b : Bool) → p x ≡ b → All P (cond b (x ∷ filter p xs) (filter p xs)) → (All P (filter p xs) → All (λ x. p x ≡ true → P x) xs) → All (λ x. p x ≡ true → P x) (x ∷ xs)
filtered_at p P x xs true is all rest = All-cons (λ x. p x ≡ true → P x) x xs (λ passes. All-head P x (filter p xs) all) (rest (All-tail P x (filter p xs) all))
filtered_at p P x xs false is all rest = All-cons (λ x. p x ≡ true → P x) x xs (λ passes. absurd (true≢false (sym passes ∙ is))) (rest all)

of_filtered : (p : Event → Bool) (P : Event → Type 0) (xs : List Event) → All P (filter p xs) → All (λ x. p x ≡ true → P x) xs
of_filtered p P [] all = All-nil (λ x. p x ≡ true → P x)
of_filtered p P (x ∷ xs) all = filtered_at p P x xs (p x) refl all (of_filtered p P xs)

-- holds of each event of a merge
pub all_of_merge : (P : Event → Type 0) (events : List Event) (lists : List (List Event)) → IsMerge events lists → ((lane : ℕ) → lane < length lists → All P (list_of lists lane)) → All P events
all_of_merge P events lists merge each k d below =
    let own = merge.of_lanes k d below in
    of_filtered (is_of_lane own.0) P events (subst (All P) (sym (merge.each own.0 own.1)) (each own.0 own.1)) k d below own.2

pub packets_of_merge : (events : List Event) (lists : List (List Event)) → IsMerge events lists → ((lane : ℕ) → lane < length lists → All IsEvent (list_of lists lane) × All Fits (list_of lists lane)) → All IsEvent events × All Fits events
packets_of_merge events lists merge each = (all_of_merge IsEvent events lists merge (λ lane below. (each lane below).0), all_of_merge Fits events lists merge (λ lane below. (each lane below).1))
