-- The orders of texts, routes and tests are total, and only equal ones tie.
use Rattle.std.proofs.Common.{◌≡◌, ℕ, suc, Bool, true, false, true≢false, Some, None, List, [], ◌∷◌, length, refl, sym, ap, subst, T, add-one, arith}
use Rattle.std.specs.Bool.{OnTrue}
use Rattle.std.specs.List.{AllByRecursion, AllAdjacentBelow, IsAllAdjacentAnswer}
use Rattle.std.specs.List.Sorted.{IsStrictlySortedBy}
use Rattle.std.specs.FinMap.{IsAntisymmetric, nat_cmp-IsAntisymmetric, slice_cmp-IsAntisymmetric}
use Rattle.std.specs.Ordering.{is_eq, is_lt, ordering_then}
use Rattle.std.specs.Cmp.{IsTotalOrder}
use Rattle.std.specs.Cmp.Lexicographic.{nat_list_cmp_total, options_total}
use Rattle.std.proofs.lemmas.Cmp.{on_total, then_total}
use Rattle.std.specs.declared.cmp.Ordering.{Ordering}
use Rattle.std.specs.declared.cmp.Ordering.TheVariants.{Less, Equal, Greater}
use Rattle.outcome_fold.specs.Order.{text_cmp, route_cmp, test_cmp}

pub texts_total : IsTotalOrder text_cmp
texts_total = nat_list_cmp_total

pub exact_texts : IsAntisymmetric text_cmp
exact_texts = slice_cmp-IsAntisymmetric nat_cmp-IsAntisymmetric

pub routes_total : IsTotalOrder route_cmp
routes_total = options_total nat_list_cmp_total

pub exact_routes : IsAntisymmetric route_cmp
exact_routes None None tie = refl
exact_routes None (Some t) tie = absurd (subst (λ r. T (is_eq r)) (sym tie) tt)
exact_routes (Some s) None tie = absurd (subst (λ r. T (is_eq r)) (sym tie) tt)
exact_routes (Some s) (Some t) tie = ap Some (exact_texts s t tie)

pub tests_total : IsTotalOrder test_cmp
tests_total = then_total (on_total (λ t. t.route) routes_total) (on_total (λ t. t.id) texts_total)

-- a tie of both orders, where one decides and then the other
both_tie : (p q : Ordering) → ordering_then p q ≡ Equal → (p ≡ Equal) × (q ≡ Equal)
both_tie Less q tie = absurd (subst (λ r. T (is_eq r)) (sym tie) tt)
both_tie Equal q tie = (refl, tie)
both_tie Greater q tie = absurd (subst (λ r. T (is_eq r)) (sym tie) tt)

pub exact_tests : IsAntisymmetric test_cmp
exact_tests s t tie =
    let both = both_tie (route_cmp s.route t.route) (text_cmp s.id t.id) tie in
    let routes : s.route ≡ t.route = exact_routes s.route t.route both.0 in
    let ids : s.id ≡ t.id = exact_texts s.id t.id both.1 in
    λ i. record { route = routes i; id = ids i }

less_of : (o : Ordering) → is_lt o ≡ true → o ≡ Less
less_of Less less = refl
less_of Equal less = absurd (true≢false (sym less))
less_of Greater less = absurd (true≢false (sym less))

-- what is below the first is below all, where each is below the next
below_all : (text first : List ℕ) (texts : List (List ℕ)) → text_cmp text first ≡ Less → AllByRecursion (λ other. text_cmp first other ≡ Less) texts → AllByRecursion (λ other. text_cmp text other ≡ Less) texts
below_all text first [] less all = tt
below_all text first (other ∷ texts) less all = (texts_total.trans text first other less all.0, below_all text first texts less all.1)

-- texts of which each is below the next are in order
pub ordered_texts : (texts : List (List ℕ)) → AllAdjacentBelow (λ s t. text_cmp s t ≡ Less) texts (length texts) → IsStrictlySortedBy text_cmp texts
unfolding IsStrictlySortedBy
ordered_texts [] adjacent = tt
ordered_texts (text ∷ []) adjacent = (tt, tt)
ordered_texts (text ∷ first ∷ texts) adjacent =
    let rest : IsStrictlySortedBy text_cmp (first ∷ texts) = ordered_texts (first ∷ texts) (λ k d below. rw add-one (rw add-one at (adjacent (suc k) d (omega arith)))) in
    let less : text_cmp text first ≡ Less = adjacent 0 [] (omega arith) in
    ((less, below_all text first texts less rest.0), rest)

pub ordered_answer : (texts : List (List ℕ)) (answer : Bool) → IsAllAdjacentAnswer (λ s t b. b ≡ is_lt (text_cmp s t)) texts answer → OnTrue answer (IsStrictlySortedBy text_cmp texts)
ordered_answer texts true adjacent = ordered_texts texts (λ k d below. less_of _ (sym (adjacent k d below)))
ordered_answer texts false adjacent = tt
