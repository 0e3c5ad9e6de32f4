-- Each step of the belt keeps its rule.
use Rattle.std.proofs.Common.{◌≡◌, ◌≢◌, ℕ, zero, suc, length, ◌+◌, ◌<◌, ◌≤◌, cond, List, [], ◌∷◌, ◌++◌, set, eqb, refl, sym, ◌∙◌, ap, subst, ⊎_elim, ◌⊎◌, inl, inr, append_assoc, true, false, arith}
use Rattle.std.specs.Prelude.{Contains}
use Rattle.std.specs.List.{AllByRecursion}
use Rattle.std.proofs.lemmas.Bool.Decides.{nat_tests}
use Rattle.std.proofs.lemmas.Bool.{cases_eq}
use Rattle.std.proofs.lemmas.List.{append-nil}
use Rattle.std.proofs.lemmas.List.Elements.{Contains-push, Contains-append_left, Contains-append_right}
use mathlib.Core.Option.{Option, some, none, some-ne-none, some-injective}
use lib.ListN.{get_elem?}
use Rattle.crossbeam_queue.specs.Fifo.{Pushes, Pops, Forks, Merges}
use Rattle.crossbeam_queue.proofs.Lists.{at_set, set_here, set_else, at_longer, at_last}
use Rattle.worker_lane.specs.declared.lot.Lot.{Lot}
use Rattle.worker_mux.specs.declared.knowledge.Parcel.{Parcel}
use Rattle.worker_mux.specs.declared.knowledge.Settled.{Settled}
use Rattle.worker_mux.specs.declared.knowledge.Knowledge.{Knowledge}
use Rattle.worker_mux.specs.declared.knowledge.Knowledge.TheVariants.{Spent, Lane, Taker}
use Rattle.worker_mux.specs.Rule.{lots_of, HasHolder, Knows, IsSettled, Kept}
use Rattle.worker_mux.specs.Packets.{IsWhole}
use Rattle.worker_mux.proofs.Lists.{all_more, changed_at, changed_here, changed_else, below}

-- the lots of a lane in two lists, one after the other
pub lots_of-append : (n : ℕ) (ps qs : List Parcel) → lots_of n (ps ++ qs) ≡ lots_of n ps ++ lots_of n qs
lots_of-append n [] qs = refl
lots_of-append n (p ∷ ps) qs =
    elim (eqb p.lane n) as (λ b. cond b (p.lot ∷ lots_of n (ps ++ qs)) (lots_of n (ps ++ qs)) ≡ cond b (p.lot ∷ lots_of n ps) (lots_of n ps) ++ lots_of n qs) [
      | true ↦ ap (λ rest. p.lot ∷ rest) (lots_of-append n ps qs)
      | false ↦ lots_of-append n ps qs
    ]

-- a lane's pass is not the taker's, and two lanes of one view are one
abbrev NoTaker : Knowledge → Type 0
NoTaker Spent = Unit {0}
NoTaker (Lane n list) = Unit {0}
NoTaker (Taker c t s) = ⊥

abbrev number_known : Knowledge → ℕ
number_known Spent = 0
number_known (Lane n list) = n
number_known (Taker c t s) = 0

lane_and_taker : (views : List Knowledge) (pass other n c : ℕ) (list : List Lot) (t : List Parcel) (s : List Settled) → get_elem? views pass ≡ some (Lane n list) → get_elem? views other ≡ some (Taker c t s) → pass ≢ other
lane_and_taker views pass other n c list t s here there same = subst NoTaker (some-injective (Lane n list) (Taker c t s) (sym here ∙ ap (λ k. get_elem? views k) same ∙ there)) tt

two_lanes : (views : List Knowledge) (pass other m n : ℕ) (list more : List Lot) → get_elem? views pass ≡ some (Lane m list) → get_elem? views other ≡ some (Lane n more) → m ≢ n → pass ≢ other
two_lanes views pass other m n list more here there else same = else (ap number_known (some-injective (Lane m list) (Lane n more) (sym here ∙ ap (λ k. get_elem? views k) same ∙ there)))

-- a holder stays where another view changes
holder_stays : (views : List Knowledge) (settled : List Settled) (n : ℕ) (list : List Lot) (seat : Option ℕ) (at : ℕ) (w : Knowledge) → ((pass : ℕ) → get_elem? views pass ≡ some (Lane n list) → pass ≢ at) → HasHolder views settled n list seat → HasHolder (set views at w) settled n list seat
holder_stays views settled n list seat at w apart holder = ⊎_elim
    (λ (live : (pass : ℕ) × (seat ≡ some pass) × (get_elem? views pass ≡ some (Lane n list))). inl (live.0, live.1, set_else views at live.0 w (apart live.0 live.2) ∙ live.2))
    (λ (ended : (seat ≡ none) × Contains settled (record { lane = n; list = list })). inr ended)
    holder

-- where it stays, the list and the seat may be written otherwise
holder_as : (views : List Knowledge) (settled : List Settled) (n : ℕ) (list list' : List Lot) (seat seat' : Option ℕ) → list ≡ list' → seat ≡ seat' → HasHolder views settled n list seat → HasHolder views settled n list' seat'
holder_as views settled n list list' seat seat' e e' holder = subst (λ (y : List Lot × Option ℕ). HasHolder views settled n y.0 y.1) (λ i. (e i, e' i)) holder

-- the lots of a lane with one parcel more
one_more : (parcel : Parcel) (m : ℕ) (so_far : List Lot) → so_far ++ lots_of m (parcel ∷ []) ≡ cond (eqb m parcel.lane) (so_far ++ parcel.lot ∷ []) so_far
one_more parcel m so_far = by_number parcel.lane parcel.lot m so_far
  where
    by_number : (n : ℕ) (lot : Lot) (m : ℕ) (so_far : List Lot) → so_far ++ cond (eqb n m) (lot ∷ []) [] ≡ cond (eqb m n) (so_far ++ lot ∷ []) so_far
    by_number n lot m so_far = elim (cases_eq m n) [
      | inl same ↦ rw same (grind (arith, nat_tests))
      | inr other ↦ grind (arith, nat_tests, append-nil so_far)
    ]

put_each : (parcel : Parcel) (taken items : List Parcel) (sent : ℕ → List Lot) → ((m : ℕ) → lots_of m taken ++ lots_of m items ≡ sent m) → (m : ℕ) → lots_of m taken ++ lots_of m (items ++ parcel ∷ []) ≡ changed_at sent parcel.lane (sent parcel.lane ++ parcel.lot ∷ []) m
put_each parcel taken items sent each m =
    ap (λ rest. lots_of m taken ++ rest) (lots_of-append m items (parcel ∷ []))
    ∙ sym (append_assoc (lots_of m taken) (lots_of m items) (lots_of m (parcel ∷ [])))
    ∙ ap (λ so_far. so_far ++ lots_of m (parcel ∷ [])) (each m)
    ∙ one_more parcel m (sent m)
    ∙ by_number parcel.lane parcel.lot sent m
  where
    by_number : (n : ℕ) (lot : Lot) (sent : ℕ → List Lot) (m : ℕ) → cond (eqb m n) (sent m ++ lot ∷ []) (sent m) ≡ changed_at sent n (sent n ++ lot ∷ []) m
    by_number n lot sent m = elim (cases_eq m n) [ inl same ↦ rw same refl | inr other ↦ grind (arith, nat_tests) ]

-- a settled lane is not one that has a pass
settled_else : (count : ℕ) (seat : ℕ → Option ℕ) (sent : ℕ → List Lot) (n pass : ℕ) (list : List Lot) → seat n ≡ some pass → (settled : List Settled) → AllByRecursion (IsSettled count seat sent) settled → AllByRecursion (IsSettled count seat (changed_at sent n list)) settled
settled_else count seat sent n pass list seated [] table = tt
settled_else count seat sent n pass list seated (s ∷ rest) table =
    let other : s.lane ≢ n = λ same. some-ne-none pass (sym seated ∙ ap seat (sym same) ∙ table.0.0) in
    ((table.0.0, table.0.1 ∙ sym (changed_else sent n list s.lane other), table.0.2), settled_else count seat sent n pass list seated rest table.1)

-- what the other passes know stays true when the lane of one pass has put more
others_know : (reader count : ℕ) (taken : List Parcel) (settled : List Settled) (seat : ℕ → Option ℕ) (sent : ℕ → List Lot) (n pass : ℕ) (list : List Lot) → seat n ≡ some pass → (j : ℕ) → j ≢ pass → (v : Knowledge) → Knows reader count taken settled seat sent j v → Knows reader count taken settled seat (changed_at sent n list) j v
others_know reader count taken settled seat sent n pass list seated j apart Spent knows = tt
others_know reader count taken settled seat sent n pass list seated j apart (Lane m l) knows =
    let other : m ≢ n = λ same. apart (some-injective j pass (sym knows.0 ∙ ap seat same ∙ seated)) in
    (knows.0, knows.1 ∙ sym (changed_else sent n list m other), knows.2)
others_know reader count taken settled seat sent n pass list seated j apart (Taker c t s) knows = knows

-- a lane puts a lot
pub puts : (cap pass : ℕ) (list : List Lot) (parcel : Parcel) → IsWhole parcel.lot → Pushes Kept cap pass (Lane parcel.lane list) parcel (λ w. w ≡ Lane parcel.lane (list ++ parcel.lot ∷ []))
puts cap pass list parcel is_whole items views room (reader, count, taken, settled, seat, sent, whole) at =
    let n : ℕ = parcel.lane in
    let mine : (seat n ≡ some pass) × (list ≡ sent n) × (n < count) = whole.known pass (Lane n list) at in
    let after : Knowledge = Lane n (list ++ parcel.lot ∷ []) in
    let longer : List Lot = sent n ++ parcel.lot ∷ [] in
    let grown : ℕ → List Lot = changed_at sent n longer in
    let same_list : list ++ parcel.lot ∷ [] ≡ grown n = ap (λ l. l ++ parcel.lot ∷ []) mine.1 ∙ sym (changed_here sent n longer) in (
      after,
      (
        reader,
        count,
        taken,
        settled,
        seat,
        grown,
        record {
          each = put_each parcel taken items sent whole.each;
          packets = all_more (λ (p : Parcel). IsWhole p.lot) items parcel whole.packets is_whole;
          reads = set_else views pass reader after (λ e. lane_and_taker views pass reader n count list taken settled at whole.reads (sym e)) ∙ whole.reads;
          holders = λ m is_lane. elim (cases_eq m n) [
            | inl same ↦ subst (λ k. HasHolder (set views pass after) settled k (grown k) (seat k)) (sym same) (inl (pass, mine.0, set_here views pass after (below views pass (Lane n list) at) ∙ ap (λ l. some (Lane n l)) same_list))
            | inr other ↦ holder_as (set views pass after) settled m (sent m) (grown m) (seat m) (seat m) (sym (changed_else sent n longer m other)) refl (holder_stays views settled m (sent m) (seat m) pass after (λ p here. two_lanes views p pass m n (sent m) list here at other) (whole.holders m is_lane))
          ];
          none_yet = λ m above. ((whole.none_yet m above).0, changed_else sent n longer m (λ same. omega (arith, mine.2)) ∙ (whole.none_yet m above).1);
          table = settled_else count seat sent n pass longer mine.0 settled whole.table;
          once = whole.once;
          known = λ j v e. ⊎_elim
              (λ (here : (j ≡ pass) × (after ≡ v)). subst (λ (y : ℕ × Knowledge). Knows reader count taken settled seat grown y.0 y.1) (λ i. (sym here.0 i, here.1 i)) (mine.0, same_list, mine.2))
              (λ (there : (j ≢ pass) × (get_elem? views j ≡ some v)). others_know reader count taken settled seat sent n pass longer mine.0 j there.0 v (whole.known j v there.1))
              (at_set views pass j after v e);
        },
      ),
      refl,
    )

-- what a pass other than the taker's knows does not speak of what was taken, of the count or of the table
known_elsewhere : (reader count count' : ℕ) (taken taken' : List Parcel) (settled settled' : List Settled) (seat : ℕ → Option ℕ) (sent : ℕ → List Lot) (pass : ℕ) → pass ≡ reader → count ≤ count' → (j : ℕ) → j ≢ pass → (v : Knowledge) → Knows reader count taken settled seat sent j v → Knows reader count' taken' settled' seat sent j v
known_elsewhere reader count count' taken taken' settled settled' seat sent pass is more j apart Spent knows = tt
known_elsewhere reader count count' taken taken' settled settled' seat sent pass is more j apart (Lane m l) knows = (knows.0, knows.1, omega (arith, knows.2))
known_elsewhere reader count count' taken taken' settled settled' seat sent pass is more j apart (Taker c t s) knows = absurd (apart (knows.0 ∙ sym is))

-- the taker's view, written anew, is where the taker reads
reads_anew : (views : List Knowledge) (pass reader : ℕ) (was now now' : Knowledge) → get_elem? views pass ≡ some was → pass ≡ reader → now ≡ now' → get_elem? (set views pass now) reader ≡ some now'
reads_anew views pass reader was now now' at same e = subst (λ k. get_elem? (set views pass now) k ≡ some now') same (set_here views pass now (below views pass was at) ∙ ap some e)

-- the taker takes the lot at the front
pub takes : (pass count : ℕ) (taken : List Parcel) (settled : List Settled) → Pops Kept pass (Taker count taken settled) (λ parcel w. w ≡ Taker count (taken ++ parcel ∷ []) settled)
takes pass c t s parcel items views (reader, count, taken, settled, seat, sent, whole) at =
    let mine : (pass ≡ reader) × (c ≡ count) × (t ≡ taken) × (s ≡ settled) = whole.known pass (Taker c t s) at in
    let more : List Parcel = taken ++ parcel ∷ [] in
    let after : Knowledge = Taker c (t ++ parcel ∷ []) s in (
      after,
      (
        reader,
        count,
        more,
        settled,
        seat,
        sent,
        record {
          each = λ m. ap (λ front. front ++ lots_of m items) (lots_of-append m taken (parcel ∷ []))
              ∙ append_assoc (lots_of m taken) (lots_of m (parcel ∷ [])) (lots_of m items)
              ∙ ap (λ rest. lots_of m taken ++ rest) (sym (lots_of-append m (parcel ∷ []) items))
              ∙ whole.each m;
          packets = whole.packets.1;
          reads = reads_anew views pass reader (Taker c t s) after (Taker count more settled) at mine.0 (λ i. Taker (mine.1 i) (mine.2 i ++ parcel ∷ []) (mine.3 i));
          holders = λ m is_lane. holder_stays views settled m (sent m) (seat m) pass after (λ p here. lane_and_taker views p pass m c (sent m) t s here at) (whole.holders m is_lane);
          none_yet = whole.none_yet;
          table = whole.table;
          once = whole.once;
          known = λ j v e. ⊎_elim
              (λ (here : (j ≡ pass) × (after ≡ v)). subst (λ (y : ℕ × Knowledge). Knows reader count more settled seat sent y.0 y.1) (λ i. (sym here.0 i, here.1 i)) (mine.0, mine.1, ap (λ l. l ++ parcel ∷ []) mine.2, mine.3))
              (λ (there : (j ≢ pass) × (get_elem? views j ≡ some v)). known_elsewhere reader count count taken more settled settled seat sent pass mine.0 (omega arith) j there.0 v (whole.known j v there.1))
              (at_set views pass j after v e);
        },
      ),
      refl,
    )

-- the table where one lane loses its pass, and is settled
settled_more : (count : ℕ) (seat : ℕ → Option ℕ) (sent : ℕ → List Lot) (n : ℕ) (settled : List Settled) → AllByRecursion (IsSettled count seat sent) settled → AllByRecursion (IsSettled count (changed_at seat n none) sent) settled
settled_more count seat sent n [] table = tt
settled_more count seat sent n (s ∷ rest) table =
    ((elim (cases_eq s.lane n) [ inl same ↦ rw same (changed_here seat n none) | inr other ↦ changed_else seat n none s.lane other ∙ table.0.0 ], table.0.1, table.0.2), settled_more count seat sent n rest table.1)

-- a lane that has a live pass has no entry yet
no_entry_yet : (count : ℕ) (seat : ℕ → Option ℕ) (sent : ℕ → List Lot) (n pass : ℕ) → seat n ≡ some pass → (settled : List Settled) → AllByRecursion (IsSettled count seat sent) settled → AllByRecursion (λ s. s.lane ≡ n → ⊥) settled
no_entry_yet count seat sent n pass seated [] table = tt
no_entry_yet count seat sent n pass seated (s ∷ rest) table = ((λ same. some-ne-none pass (sym seated ∙ ap seat (sym same) ∙ table.0.0)), no_entry_yet count seat sent n pass seated rest table.1)

-- a holder stays where the table grows
holder_grows : (views : List Knowledge) (settled : List Settled) (n : ℕ) (list : List Lot) (seat : Option ℕ) (entry : Settled) → HasHolder views settled n list seat → HasHolder views (entry ∷ settled) n list seat
holder_grows views settled n list seat entry holder = ⊎_elim
    (λ (live : (pass : ℕ) × (seat ≡ some pass) × (get_elem? views pass ≡ some (Lane n list))). inl live)
    (λ (ended : (seat ≡ none) × Contains settled (record { lane = n; list = list })). inr (ended.0, Contains-append_right (entry ∷ []) settled (record { lane = n; list = list }) ended.1))
    holder

-- the taker settles a lane
pub settles : (pass other n count : ℕ) (list : List Lot) (taken : List Parcel) (settled : List Settled) → Merges Kept pass (Taker count taken settled) other (Lane n list) (Taker count taken (record { lane = n; list = list } ∷ settled)) Spent
settles pass other n c list t s items views (reader, count, taken, settled, seat, sent, whole) at two at' =
    let mine : (pass ≡ reader) × (c ≡ count) × (t ≡ taken) × (s ≡ settled) = whole.known pass (Taker c t s) at in
    let entry : Settled = record { lane = n; list = list } in
    let both : Knowledge = Taker c t (entry ∷ s) in
    let was : get_elem? views other ≡ some (Lane n list) = ⊎_elim (λ x. absurd (two x.0)) (λ x. x.1) (at_set views pass other both (Lane n list) at') in
    let theirs : (seat n ≡ some other) × (list ≡ sent n) × (n < count) = whole.known other (Lane n list) was in
    let seats : ℕ → Option ℕ = changed_at seat n none in
    let between : List Knowledge = set views pass both in
    let after : List Knowledge = set between other Spent in (
      reader,
      count,
      taken,
      entry ∷ settled,
      seats,
      sent,
      record {
        each = whole.each;
        packets = whole.packets;
        reads = set_else between other reader Spent (λ e. two (sym e ∙ sym mine.0)) ∙ reads_anew views pass reader (Taker c t s) both (Taker count taken (entry ∷ settled)) at mine.0 (λ i. Taker (mine.1 i) (mine.2 i) (entry ∷ mine.3 i));
        holders = λ m is_lane. elim (cases_eq m n) [
          | inl same ↦ subst (λ k. HasHolder after (entry ∷ settled) k (sent k) (seats k)) (sym same) (inr (changed_here seat n none, subst (λ (l : List Lot). Contains (entry ∷ settled) (record { lane = n; list = l })) theirs.1 (Contains-append_left (entry ∷ []) settled entry (Contains-push [] entry))))
          | inr different ↦ holder_as after (entry ∷ settled) m (sent m) (sent m) (seat m) (seats m) refl (sym (changed_else seat n none m different)) (holder_grows after settled m (sent m) (seat m) entry (holder_stays between settled m (sent m) (seat m) other Spent (λ p here. two_lanes between p other m n (sent m) list here at' different) (holder_stays views settled m (sent m) (seat m) pass both (λ p here. lane_and_taker views p pass m c (sent m) t s here at) (whole.holders m is_lane))))
        ];
        none_yet = λ m above. (changed_else seat n none m (λ same. omega (arith, theirs.2)) ∙ (whole.none_yet m above).0, (whole.none_yet m above).1);
        table = ((changed_here seat n none, theirs.1, theirs.2), settled_more count seat sent n settled whole.table);
        once = (no_entry_yet count seat sent n other theirs.0 settled whole.table, whole.once);
        known = λ j v e. ⊎_elim
            (λ (here : (j ≡ other) × (Spent ≡ v)). subst (λ (y : Knowledge). Knows reader count taken (entry ∷ settled) seats sent j y) here.1 tt)
            (λ (there : (j ≢ other) × (get_elem? between j ≡ some v)). ⊎_elim
            (λ (x : (j ≡ pass) × (both ≡ v)). subst (λ (y : ℕ × Knowledge). Knows reader count taken (entry ∷ settled) seats sent y.0 y.1) (λ i. (sym x.0 i, x.1 i)) (mine.0, mine.1, mine.2, ap (λ l. entry ∷ l) mine.3))
            (λ (x : (j ≢ pass) × (get_elem? views j ≡ some v)). unseated reader count taken settled (entry ∷ settled) seat sent n other theirs.0 pass mine.0 j there.0 x.0 v (whole.known j v x.1))
            (at_set views pass j both v there.1))
            (at_set between other j Spent v e);
      },
    )
  where
    unseated : (reader count : ℕ) (taken : List Parcel) (settled settled' : List Settled) (seat : ℕ → Option ℕ) (sent : ℕ → List Lot) (n other : ℕ) → seat n ≡ some other → (pass : ℕ) → pass ≡ reader → (j : ℕ) → j ≢ other → j ≢ pass → (v : Knowledge) → Knows reader count taken settled seat sent j v → Knows reader count taken settled' (changed_at seat n none) sent j v
    unseated reader count taken settled settled' seat sent n other seated pass is j apart apart' Spent knows = tt
    unseated reader count taken settled settled' seat sent n other seated pass is j apart apart' (Lane m l) knows =
        let else : m ≢ n = λ same. apart (some-injective j other (sym knows.0 ∙ ap seat same ∙ seated)) in
        (changed_else seat n none m else ∙ knows.0, knows.1, knows.2)
    unseated reader count taken settled settled' seat sent n other seated pass is j apart apart' (Taker x t s) knows = absurd (apart' (knows.0 ∙ sym is))

-- a place in a list with one element more
at_end : (l : List Knowledge) (a b : Knowledge) (j : ℕ) → get_elem? (l ++ a ∷ []) j ≡ some b → (get_elem? l j ≡ some b) ⊎ ((j ≡ length l) × (a ≡ b))
at_end [] a b zero e = inr (refl, some-injective a b e)
at_end [] a b (suc j) e = absurd (some-ne-none b (sym e))
at_end (x ∷ xs) a b zero e = inl e
at_end (x ∷ xs) a b (suc j) e = ⊎_elim (λ (old : get_elem? xs j ≡ some b). inl old) (λ (last : (j ≡ length xs) × (a ≡ b)). inr (ap suc last.0, last.1)) (at_end xs a b j e)

-- a holder stays where a view is added
holder_longer : (views : List Knowledge) (settled : List Settled) (n : ℕ) (list : List Lot) (seat : Option ℕ) (more : Knowledge) → HasHolder views settled n list seat → HasHolder (views ++ more ∷ []) settled n list seat
holder_longer views settled n list seat more holder = ⊎_elim
    (λ (live : (pass : ℕ) × (seat ≡ some pass) × (get_elem? views pass ≡ some (Lane n list))). inl (live.0, live.1, at_longer views (more ∷ []) live.0 (Lane n list) live.2))
    (λ (ended : (seat ≡ none) × Contains settled (record { lane = n; list = list })). inr ended)
    holder

-- a belt begins with a taker and no lane
pub begins : Kept [] (Taker 0 [] [] ∷ [])
begins = (
  0,
  0,
  [],
  [],
  (λ _. none),
  (λ _. []),
  record {
    each = λ m. refl;
    packets = tt;
    reads = refl;
    holders = λ m is_lane. absurd (omega arith);
    none_yet = λ m above. (refl, refl);
    table = tt;
    once = tt;
    known = λ j v e. first j v e;
  },
)
  where
    first : (j : ℕ) (v : Knowledge) → get_elem? (Taker 0 [] [] ∷ []) j ≡ some v → Knows 0 0 [] [] (λ _. none) (λ _. []) j v
    first zero v e = subst (λ (y : Knowledge). Knows 0 0 [] [] (λ _. none) (λ _. []) 0 y) (some-injective _ v e) (refl, refl, refl, refl)
    first (suc j) v e = absurd (some-ne-none v (sym e))

-- the taker makes the next lane
pub adds : (pass count : ℕ) (taken : List Parcel) (settled : List Settled) → Forks Kept pass (Taker count taken settled) (Taker (count + 1) taken settled) (Lane count [])
adds pass c t s items views (reader, count, taken, settled, seat, sent, whole) at =
    let mine : (pass ≡ reader) × (c ≡ count) × (t ≡ taken) × (s ≡ settled) = whole.known pass (Taker c t s) at in
    let left : Knowledge = Taker (c + 1) t s in
    let right : Knowledge = Lane c [] in
    let between : List Knowledge = set views pass left in
    let port : ℕ = length between in
    let seats : ℕ → Option ℕ = changed_at seat c (some port) in
    let fresh : (seat c ≡ none) × (sent c ≡ []) = whole.none_yet c (omega (arith, mine.1)) in (
      reader,
      count + 1,
      taken,
      settled,
      seats,
      sent,
      record {
        each = whole.each;
        packets = whole.packets;
        reads = at_longer between (right ∷ []) reader (Taker (count + 1) taken settled) (reads_anew views pass reader (Taker c t s) left (Taker (count + 1) taken settled) at mine.0 (λ i. Taker (mine.1 i + 1) (mine.2 i) (mine.3 i)));
        holders = λ m is_lane. elim (cases_eq m c) [
          | inl same ↦ subst (λ k. HasHolder (between ++ right ∷ []) settled k (sent k) (seats k)) (sym same) (inl (port, changed_here seat c (some port), at_last between right port refl ∙ ap (λ l. some (Lane c l)) (sym fresh.1)))
          | inr other ↦ holder_as (between ++ right ∷ []) settled m (sent m) (sent m) (seat m) (seats m) refl (sym (changed_else seat c (some port) m other)) (holder_longer between settled m (sent m) (seat m) right (holder_stays views settled m (sent m) (seat m) pass left (λ p here. lane_and_taker views p pass m c (sent m) t s here at) (whole.holders m (earlier m c count is_lane mine.1 other))))
        ];
        none_yet = λ m above. (changed_else seat c (some port) m (λ same. omega (arith, mine.1)) ∙ (whole.none_yet m (omega arith)).0, (whole.none_yet m (omega arith)).1);
        table = settled_before seat sent c port count (omega (arith, mine.1)) settled whole.table;
        once = whole.once;
        known = λ j v e. ⊎_elim
            (λ (old : get_elem? between j ≡ some v). ⊎_elim
            (λ (x : (j ≡ pass) × (left ≡ v)). subst (λ (y : ℕ × Knowledge). Knows reader (count + 1) taken settled seats sent y.0 y.1) (λ i. (sym x.0 i, x.1 i)) (mine.0, ap (λ k. k + 1) mine.1, mine.2, mine.3))
            (λ (x : (j ≢ pass) × (get_elem? views j ≡ some v)). seated_before reader count taken settled seat sent c port fresh.0 pass mine.0 j x.0 v (whole.known j v x.1))
            (at_set views pass j left v old))
            (λ (last : (j ≡ port) × (right ≡ v)). subst (λ (y : ℕ × Knowledge). Knows reader (count + 1) taken settled seats sent y.0 y.1) (λ i. (sym last.0 i, last.1 i)) (changed_here seat c (some port), sym fresh.1, omega (arith, mine.1)))
            (at_end between right v j e);
      },
    )
  where
    earlier : (m c count : ℕ) → m < count + 1 → c ≡ count → m ≢ c → m < count
    earlier m c count before same other = omega (arith, same, other)

    settled_before : (seat : ℕ → Option ℕ) (sent : ℕ → List Lot) (c port count : ℕ) → count ≤ c → (settled : List Settled) → AllByRecursion (IsSettled count seat sent) settled → AllByRecursion (IsSettled (count + 1) (changed_at seat c (some port)) sent) settled
    settled_before seat sent c port count above [] table = tt
    settled_before seat sent c port count above (s ∷ rest) table =
        ((changed_else seat c (some port) s.lane (λ same. omega (arith, table.0.2)) ∙ table.0.0, table.0.1, omega (arith, table.0.2)), settled_before seat sent c port count above rest table.1)

    seated_before : (reader count : ℕ) (taken : List Parcel) (settled : List Settled) (seat : ℕ → Option ℕ) (sent : ℕ → List Lot) (c port : ℕ) → seat c ≡ none → (pass : ℕ) → pass ≡ reader → (j : ℕ) → j ≢ pass → (v : Knowledge) → Knows reader count taken settled seat sent j v → Knows reader (count + 1) taken settled (changed_at seat c (some port)) sent j v
    seated_before reader count taken settled seat sent c port free pass is j apart Spent knows = tt
    seated_before reader count taken settled seat sent c port free pass is j apart (Lane m l) knows =
        let other : m ≢ c = λ same. some-ne-none j (sym knows.0 ∙ ap seat same ∙ free) in
        (changed_else seat c (some port) m other ∙ knows.0, knows.1, omega (arith, knows.2))
    seated_before reader count taken settled seat sent c port free pass is j apart (Taker x t s) knows = absurd (apart (knows.0 ∙ sym is))
