-- Tallies that grow by a test.
use Rattle.std.proofs.Common.{◌≡◌, ℕ, ◌+◌, Bool, List, [], ◌∷◌, ◌++◌, map, length, get_or, refl, ap, ap₂, ◌∙◌, arith}
use Rattle.std.specs.Cmp.{IsTotalOrder}
use Rattle.std.specs.List.Sorted.{IsSortedBy}
use Rattle.std.proofs.lemmas.Cmp.{on_total, then_total, back_total, nat_cmp_total}
use Rattle.std.proofs.lemmas.List.{length-map, get_or-map}
use Rattle.outcome_fold.proofs.OrderLemmas.{texts_total}
use Rattle.skip_reasons.specs.Skips.{Tally, more_of, tallies_with, frequency_cmp}

-- of the tallies only the last one changes
pub one_more_last : (front : List Tally) (last : Tally) (reason : List ℕ) → tallies_with (front ++ last ∷ []) reason ≡ front ++ more_of last reason
one_more_last [] last reason = refl
one_more_last (t ∷ []) last reason = refl
one_more_last (t ∷ u ∷ front) last reason = ap (λ ts. t ∷ ts) (one_more_last (u ∷ front) last reason)

-- what is shown of a sorted list is sorted by the same order
pub sorted_shown : {X Y : Type 0} (f : X → Y) (lt : Y → Y → Bool) (xs : List X) → IsSortedBy (λ x y. lt (f x) (f y)) xs → IsSortedBy lt (map f xs)
sorted_shown f lt [] sorted = λ k d low high. absurd (omega (arith, high))
sorted_shown {X} {Y} f lt (x ∷ xs) sorted = λ k d low high.
    let long : length (map f (x ∷ xs)) ≡ length (x ∷ xs) = length-map (x ∷ xs) f in
    let next : get_or (map f (x ∷ xs)) (k + 1) d ≡ f (get_or (x ∷ xs) (k + 1) x) = get_or-map f (x ∷ xs) (k + 1) x d (omega (arith, high, long)) in
    let this : get_or (map f (x ∷ xs)) k d ≡ f (get_or (x ∷ xs) k x) = get_or-map f (x ∷ xs) k x d (omega (arith, high, long)) in
    ap₂ lt next this ∙ sorted k x low (omega (arith, high, long))

-- a tally's order is total
pub frequency_total : IsTotalOrder frequency_cmp
frequency_total = then_total (back_total (on_total (λ t. t.tests) nat_cmp_total)) (on_total (λ t. t.reason) texts_total)
