-- Lists of lent tags in order.
use Rattle.std.proofs.Common.{◌≡◌, ℕ, zero, suc, ◌-◌, ◌<◌, ◌≤◌, Bool, true, false, ◌&&◌, ◌||◌, T, cond, List, [], ◌∷◌, ◌++◌, map, take, drop, length, get_or, refl, sym, ◌∙◌, ap, subst, drop-cons, arith}
use Rattle.std.specs.Borrow.{Bor}
use Rattle.std.specs.FinMap as fin
use Rattle.std.specs.FinMap.{entries_sorted}
use Rattle.std.specs.FinMap.Entries.{is_sorted}
use Rattle.std.specs.Ordering.{eq_by_cmp, is_lt, is_eq, ordering_reverse}
use Rattle.std.specs.List.{AllByRecursion, dedup, dedup_from, filter, insert}
use Rattle.std.specs.List.Retain.{IsFiltered, DiffersFromLast}
use Rattle.std.specs.List.Sorted.{IsPermutation, IsSorted, IsStrictlySortedBy}
use Rattle.std.specs.declared.cmp.Ordering.{Ordering}
use Rattle.std.specs.declared.cmp.Ordering.TheVariants.{Less, Equal, Greater}
use Rattle.std.proofs.lemmas.List.{take-append-drop}
use Rattle.std.proofs.lemmas.Cmp.{on_total}
use Rattle.std.proofs.lemmas.List.Folds.{list_any_at}
use Rattle.std.proofs.lemmas.List.Sorted.{IsPermutation-map, list_any-IsPermutation}
use Rattle.std.proofs.lemmas.List.Filters.{dedup_is}
use Rattle.std.proofs.lemmas.List.Kept.{IsStrictlySortedBy-dedup}
use Rattle.outcome_fold.proofs.TableLemmas.{tied_is}
use Rattle.std.specs.Cmp.Lexicographic.{pointwise, texts_ties}
use Rattle.std.specs.Prelude.{nat_eq}
use Rattle.packet_codec.specs.Retagging.{lent_bytes}
use Rattle.outcome_fold.specs.Order.{text_cmp, text_table, in_byte_order, among}
use Rattle.outcome_fold.proofs.OrderLemmas.{texts_total, exact_texts}
use Rattle.outcome_fold.proofs.SetLemmas.{ordered_already, same_order, set_has}

-- ---- the order of any texts is one

both : (a b : Bool) → T (a && b) → T a × T b
both true b p = (tt, p)
both false b p = absurd p

less : (o : Ordering) → T (is_lt o) → o ≡ Less
less Less p = refl
less Equal p = absurd p
less Greater p = absurd p

above_all : (text first : List ℕ) (texts : List (List ℕ)) → text_cmp text first ≡ Less → AllByRecursion (λ other. text_cmp first other ≡ Less) texts → AllByRecursion (λ other. text_cmp text other ≡ Less) texts
above_all text first [] is all = tt
above_all text first (other ∷ texts) is all = (texts_total.trans text first other is all.0, above_all text first texts is all.1)

rising : {V : Type 0} (entries : List (List ℕ × V)) → T (is_sorted text_cmp entries) → IsStrictlySortedBy text_cmp (map (λ e. e.0) entries)
unfolding IsStrictlySortedBy
rising [] sorted = tt
rising (entry ∷ []) sorted = (tt, tt)
rising (entry ∷ next ∷ entries) sorted =
    let rest : IsStrictlySortedBy text_cmp (map (λ e. e.0) (next ∷ entries)) = rising (next ∷ entries) (both _ _ sorted).1 in
    let first : text_cmp entry.0 next.0 ≡ Less = less _ (both _ _ (both _ _ sorted).0).0 in
    ((first, above_all entry.0 next.0 _ first rest.0), rest)

pub order_rises : (texts : List (List ℕ)) → IsStrictlySortedBy text_cmp (in_byte_order texts)
order_rises texts = rising (fin.entries (text_table texts)) (entries_sorted (text_table texts))

-- ---- between those in front and those behind

sorted_between : (front back : List (List ℕ)) (text : List ℕ) → IsStrictlySortedBy text_cmp (front ++ back) → AllByRecursion (λ other. text_cmp other text ≡ Less) front → AllByRecursion (λ other. text_cmp text other ≡ Less) back → IsStrictlySortedBy text_cmp (front ++ text ∷ back)
unfolding IsStrictlySortedBy
sorted_between [] back text ordered before behind = (behind, ordered)
sorted_between (first ∷ front) back text ordered before behind = (put_below front ordered.0, sorted_between front back text ordered.1 before.1 behind)
  where
    put_below : (front : List (List ℕ)) → AllByRecursion (λ other. text_cmp first other ≡ Less) (front ++ back) → AllByRecursion (λ other. text_cmp first other ≡ Less) (front ++ text ∷ back)
    put_below [] all = (before.0, all)
    put_below (next ∷ front) all = (all.0, put_below front all.1)

among_between : (front back : List (List ℕ)) (text q : List ℕ) → among (front ++ text ∷ back) q ≡ among (text ∷ (front ++ back)) q
among_between [] back text q = refl
among_between (first ∷ front) back text q = ap (λ b. eq_by_cmp text_cmp q first || b) (among_between front back text q) ∙ turned (eq_by_cmp text_cmp q first) (eq_by_cmp text_cmp q text) (among (front ++ back) q)
  where
    turned : (a b c : Bool) → (a || (b || c)) ≡ (b || (a || c))
    turned true true c = refl
    turned true false c = refl
    turned false b c = refl

-- a text is inserted behind those that are less and in front of those that are greater
pub inserted_between : (texts : List (List ℕ)) (place : ℕ) (text : List ℕ) → IsStrictlySortedBy text_cmp texts → AllByRecursion (λ other. text_cmp other text ≡ Less) (take place texts) → AllByRecursion (λ other. text_cmp text other ≡ Less) (drop place texts) → insert texts place text ≡ in_byte_order (text ∷ texts)
inserted_between texts place text ordered before behind =
    let parts : take place texts ++ drop place texts ≡ texts = take-append-drop place texts in
    sym (ordered_already _ (sorted_between (take place texts) (drop place texts) text (subst (IsStrictlySortedBy text_cmp) (sym parts) ordered) before behind))
    ∙ same_order _ (text ∷ texts) (λ q. among_between (take place texts) (drop place texts) text q ∙ ap (λ l. eq_by_cmp text_cmp q text || among l q) parts)

-- what stands in front of one that is less, with it
pub less_up_to : (texts : List (List ℕ)) (i : ℕ) (text : List ℕ) → IsStrictlySortedBy text_cmp texts → i < length texts → text_cmp (get_or texts i []) text ≡ Less → AllByRecursion (λ other. text_cmp other text ≡ Less) (take (suc i) texts)
unfolding IsStrictlySortedBy
less_up_to [] i text ordered below is = absurd (omega (arith, below))
less_up_to (first ∷ texts) zero text ordered below is = (is, tt)
less_up_to (first ∷ texts) (suc i) text ordered below is = (texts_total.trans first (get_or texts i []) text (reached texts i ordered.0 (omega (arith, below))) is, less_up_to texts i text ordered.1 (omega (arith, below)) is)
  where
    reached : (texts : List (List ℕ)) (i : ℕ) → AllByRecursion (λ other. text_cmp first other ≡ Less) texts → i < length texts → text_cmp first (get_or texts i []) ≡ Less
    reached [] i all below = absurd (omega (arith, below))
    reached (next ∷ texts) zero all below = all.0
    reached (next ∷ texts) (suc i) all below = reached texts i all.1 (omega (arith, below))

flipped : (a b : List ℕ) → text_cmp a b ≡ Greater → text_cmp b a ≡ Less
flipped a b greater = texts_total.antisymm b a ∙ ap ordering_reverse greater

-- one more that is greater, in front of those
pub greater_from : (texts : List (List ℕ)) (i : ℕ) (text : List ℕ) → i < length texts → text_cmp (get_or texts i []) text ≡ Greater → AllByRecursion (λ other. text_cmp text other ≡ Less) (drop (suc i) texts) → AllByRecursion (λ other. text_cmp text other ≡ Less) (drop i texts)
greater_from texts i text below is behind =
    subst (AllByRecursion (λ other. text_cmp text other ≡ Less)) (sym (drop-cons texts i [] below)) (flipped (get_or texts i []) text is, behind)

-- ---- lent texts

pub lent_at : (tags : List (Bor (List ℕ))) (i : ℕ) (d : Bor (List ℕ)) → i < length tags → get_or (lent_bytes tags) i [] ≡ (get_or tags i d).now
lent_at [] i d below = absurd (omega (arith, below))
lent_at (tag ∷ tags) zero d below = refl
lent_at (tag ∷ tags) (suc i) d below = lent_at tags i d (omega (arith, below))

pub length_lent : (tags : List (Bor (List ℕ))) → length (lent_bytes tags) ≡ length tags
length_lent [] = refl
length_lent (tag ∷ tags) = ap suc (length_lent tags)

pub lent_insert : (tags : List (Bor (List ℕ))) (place : ℕ) (tag : Bor (List ℕ)) → lent_bytes (insert tags place tag) ≡ insert (lent_bytes tags) place tag.now
lent_insert tags zero tag = refl
lent_insert [] (suc place) tag = refl
lent_insert (first ∷ tags) (suc place) tag = ap (λ l. first.now ∷ l) (lent_insert tags place tag)

lent_in_order : (tags : List (Bor (List ℕ))) → IsStrictlySortedBy (λ s t. text_cmp s.now t.now) tags → IsStrictlySortedBy text_cmp (lent_bytes tags)
unfolding IsStrictlySortedBy
lent_in_order [] ordered = tt
lent_in_order (tag ∷ tags) ordered = (below tags ordered.0, lent_in_order tags ordered.1)
  where
    below : (tags : List (Bor (List ℕ))) → AllByRecursion (λ other. text_cmp tag.now other.now ≡ Less) tags → AllByRecursion (λ other. text_cmp tag.now other ≡ Less) (lent_bytes tags)
    below [] all = tt
    below (other ∷ tags) all = (all.0, below tags all.1)

-- a place that the search ends at, from the end

abbrev pub ComesBehind : List (List ℕ) → ℕ → List ℕ → Type 0
ComesBehind texts place text = AllByRecursion (λ other. text_cmp text other ≡ Less) (drop place texts)

-- the one in front of the place is less
pub place_behind : (tags : List (Bor (List ℕ))) (place : ℕ) (tag : List ℕ) (d : Bor (List ℕ)) → IsStrictlySortedBy text_cmp (lent_bytes tags) → 0 < place → place ≤ length tags → Less ≡ text_cmp (get_or tags (place - 1) d).now tag → ComesBehind (lent_bytes tags) place tag → insert (lent_bytes tags) place tag ≡ in_byte_order (tag ∷ lent_bytes tags)
place_behind tags zero tag d ordered some within is behind = absurd (omega (arith, some))
place_behind tags (suc i) tag d ordered some within is behind =
    let below : i < length (lent_bytes tags) = omega (arith, within, length_lent tags) in
    let before : suc i - 1 ≡ i = omega arith in
    let lower : text_cmp (get_or (lent_bytes tags) i []) tag ≡ Less = ap (λ t. text_cmp t tag) (lent_at tags i d (omega (arith, within))) ∙ ap (λ k. text_cmp (get_or tags k d).now tag) (sym before) ∙ sym is in
    inserted_between (lent_bytes tags) (suc i) tag ordered (less_up_to (lent_bytes tags) i tag ordered below lower) behind

-- it is the tag
pub there_already : (tags : List (Bor (List ℕ))) (place : ℕ) (tag : List ℕ) (d : Bor (List ℕ)) → IsStrictlySortedBy text_cmp (lent_bytes tags) → 0 < place → place ≤ length tags → Equal ≡ text_cmp (get_or tags (place - 1) d).now tag → lent_bytes tags ≡ in_byte_order (tag ∷ lent_bytes tags)
there_already tags place tag d ordered some within is =
    let below : place - 1 < length (lent_bytes tags) = omega (arith, some, within, length_lent tags) in
    let tie : text_cmp (get_or (lent_bytes tags) (place - 1) []) tag ≡ Equal = ap (λ t. text_cmp t tag) (lent_at tags (place - 1) d (omega (arith, some, within))) ∙ sym is in
    set_has (lent_bytes tags) tag ordered (sym (list_any_at (eq_by_cmp text_cmp tag) (lent_bytes tags) (place - 1) [] below (ap is_eq (texts_total.antisymm tag (get_or (lent_bytes tags) (place - 1) []) ∙ ap ordering_reverse tie))))

-- it is greater
pub place_further : (tags : List (Bor (List ℕ))) (place : ℕ) (tag : List ℕ) (d : Bor (List ℕ)) → 0 < place → place ≤ length tags → Greater ≡ text_cmp (get_or tags (place - 1) d).now tag → ComesBehind (lent_bytes tags) place tag → ComesBehind (lent_bytes tags) (place - 1) tag
place_further tags zero tag d some within is behind = absurd (omega (arith, some))
place_further tags (suc i) tag d some within is behind =
    let below : i < length (lent_bytes tags) = omega (arith, within, length_lent tags) in
    let before : suc i - 1 ≡ i = omega arith in
    let higher : text_cmp (get_or (lent_bytes tags) i []) tag ≡ Greater = ap (λ t. text_cmp t tag) (lent_at tags i d (omega (arith, within))) ∙ ap (λ k. text_cmp (get_or tags k d).now tag) (sym before) ∙ sym is in
    subst (λ k. ComesBehind (lent_bytes tags) k tag) (sym before) (greater_from (lent_bytes tags) i tag below higher behind)

-- all of them are greater
pub place_in_front : (tags : List (Bor (List ℕ))) (place : ℕ) (tag : List ℕ) → IsStrictlySortedBy text_cmp (lent_bytes tags) → place ≤ 0 → ComesBehind (lent_bytes tags) place tag → tag ∷ lent_bytes tags ≡ in_byte_order (tag ∷ lent_bytes tags)
place_in_front tags zero tag ordered first behind = inserted_between (lent_bytes tags) 0 tag ordered tt behind
place_in_front tags (suc place) tag ordered first behind = absurd (omega (arith, first))

-- ---- a sort, and a filter

abbrev same_lent : Bor (List ℕ) → Bor (List ℕ) → Bool
same_lent s t = pointwise nat_eq s.now t.now

same_is : (s t : List ℕ) → pointwise nat_eq s t ≡ true → s ≡ t
same_is s t same = tied_is exact_texts s t (sym (texts_ties s t) ∙ same)

among_deduped_from : (first : Bor (List ℕ)) (tags : List (Bor (List ℕ))) (q : List ℕ) → among (lent_bytes (dedup_from same_lent first tags)) q ≡ (eq_by_cmp text_cmp q first.now || among (lent_bytes tags) q)
among_deduped_from first [] q = refl
among_deduped_from first (tag ∷ tags) q = by (same_lent tag first) refl (among_deduped_from first tags q) (among_deduped_from tag tags q)
  where
    again : (a b : Bool) → (a || b) ≡ (a || (a || b))
    again true b = refl
    again false b = refl

    by : (same : Bool) → same_lent tag first ≡ same
        → among (lent_bytes (dedup_from same_lent first tags)) q ≡ (eq_by_cmp text_cmp q first.now || among (lent_bytes tags) q)
        → among (lent_bytes (dedup_from same_lent tag tags)) q ≡ (eq_by_cmp text_cmp q tag.now || among (lent_bytes tags) q)
        → among (lent_bytes (cond same (dedup_from same_lent first tags) (first ∷ dedup_from same_lent tag tags))) q ≡ (eq_by_cmp text_cmp q first.now || (eq_by_cmp text_cmp q tag.now || among (lent_bytes tags) q))
    by true same one other = one ∙ again (eq_by_cmp text_cmp q first.now) (among (lent_bytes tags) q) ∙ ap (λ t. eq_by_cmp text_cmp q first.now || (eq_by_cmp text_cmp q t || among (lent_bytes tags) q)) (sym (same_is tag.now first.now same))
    by false same one other = ap (λ b. eq_by_cmp text_cmp q first.now || b) other

among_deduped : (tags : List (Bor (List ℕ))) (q : List ℕ) → among (lent_bytes (dedup same_lent tags)) q ≡ among (lent_bytes tags) q
among_deduped [] q = refl
among_deduped (tag ∷ tags) q = among_deduped_from tag tags q

-- what a sort and then a `dedup` leave
pub order_sorted : (tags sorted left : List (Bor (List ℕ))) → IsPermutation tags sorted → IsSorted (λ s t. text_cmp s.now t.now) sorted → IsFiltered (DiffersFromLast (λ s t. pointwise nat_eq s.now t.now)) [] sorted left → lent_bytes left ≡ in_byte_order (lent_bytes tags)
order_sorted tags sorted left moved rises filtered =
    let once : left ≡ dedup same_lent sorted = dedup_is same_lent sorted left filtered in
    let ordered : IsStrictlySortedBy text_cmp (lent_bytes (dedup same_lent sorted)) = lent_in_order _ (IsStrictlySortedBy-dedup (on_total (λ (s : Bor (List ℕ)). s.now) texts_total) (λ s t. texts_ties s.now t.now) sorted rises) in
    ap lent_bytes once ∙ sym (ordered_already _ ordered)
    ∙ same_order _ _ (λ q. among_deduped sorted q ∙ sym (list_any-IsPermutation (eq_by_cmp text_cmp q) _ _ (IsPermutation-map (λ (tag : Bor (List ℕ)). tag.now) _ _ moved)))

pub lent_filter : (keep : List ℕ → Bool) (tags : List (Bor (List ℕ))) → lent_bytes (filter (λ tag. keep tag.now) tags) ≡ filter keep (lent_bytes tags)
lent_filter keep [] = refl
lent_filter keep (tag ∷ tags) =
    elim (keep tag.now) as (λ b. lent_bytes (cond b (tag ∷ filter (λ tag. keep tag.now) tags) (filter (λ tag. keep tag.now) tags)) ≡ cond b (tag.now ∷ filter keep (lent_bytes tags)) (filter keep (lent_bytes tags))) [ true ↦ ap (λ l. tag.now ∷ l) (lent_filter keep tags) | false ↦ lent_filter keep tags ]

pub inserted_as : (tags read : List (Bor (List ℕ))) (place : ℕ) (tag : List ℕ) → read ≡ tags → insert (lent_bytes read) place tag ≡ in_byte_order (tag ∷ lent_bytes read) → insert (lent_bytes tags) place tag ≡ in_byte_order (tag ∷ lent_bytes tags)
inserted_as tags read place tag is = subst (λ (l : List (Bor (List ℕ))). insert (lent_bytes l) place tag ≡ in_byte_order (tag ∷ lent_bytes l)) is
