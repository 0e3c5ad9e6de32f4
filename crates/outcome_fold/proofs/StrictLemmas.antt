-- Times whose ids rise.
use Rattle.std.proofs.Common.{◌≡◌, ℕ, true, true≢false, List, [], ◌∷◌, map, refl, sym, ap, ◌∙◌}
use Rattle.std.specs.List.{All}
use Rattle.std.specs.List.Sorted.{IsStrictlySortedBy}
use Rattle.std.specs.Ordering.{is_lt, ordering_reverse}
use Rattle.std.specs.Cmp.{tied_itself}
use Rattle.std.specs.declared.cmp.Ordering.{Ordering}
use Rattle.std.specs.declared.cmp.Ordering.TheVariants.{Less, Equal, Greater}
use Rattle.std.proofs.lemmas.List.Elements.{All-map, recursion_from_All}
use Rattle.outcome_fold.specs.Order.{text_cmp}
use Rattle.outcome_fold.proofs.OrderLemmas.{texts_total}

abbrev pub Timed : Type 0
Timed = List ℕ × ℕ

-- each id is above this one
abbrev pub Above : List ℕ → List Timed → Type 0
Above id es = All (λ e. text_cmp id e.0 ≡ Less) es

-- each id is below those behind it
abbrev pub Strict : List Timed → Type 0
Strict [] = Unit {0}
Strict (e ∷ es) = Above e.0 es × Strict es

pub less_is : (o : Ordering) → is_lt o ≡ true → o ≡ Less
less_is Less is = refl
less_is Equal is = absurd (true≢false (sym is))
less_is Greater is = absurd (true≢false (sym is))

pub turned : (a b : List ℕ) → text_cmp a b ≡ Greater → text_cmp b a ≡ Less
turned a b is = texts_total.antisymm b a ∙ ap ordering_reverse is

-- one that is below another is not that
pub apart : (a b : List ℕ) → text_cmp a b ≡ Less → a ≡ b → ⊥
apart a b less same = true≢false (sym (ap is_lt less) ∙ ap is_lt (ap (text_cmp a) (sym same) ∙ tied_itself texts_total a))

-- the same of the ids alone
pub strict_keys : (es : List Timed) → Strict es → IsStrictlySortedBy text_cmp (map (λ e. e.0) es)
unfolding IsStrictlySortedBy
strict_keys [] strict = tt
strict_keys (e ∷ es) strict = (recursion_from_All (λ k. text_cmp e.0 k ≡ Less) (map (λ e. e.0) es) (All-map (λ k. text_cmp e.0 k ≡ Less) (λ e. e.0) es strict.0), strict_keys es strict.1)
