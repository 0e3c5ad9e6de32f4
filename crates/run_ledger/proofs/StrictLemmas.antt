-- Entries whose ids rise.
use Rattle.std.proofs.Common.{◌≡◌, ℕ, true, false, true≢false, cond, List, [], ◌∷◌, ◌++◌, Option, Some, None, map, refl, sym, ap, ◌∙◌}
use Rattle.std.specs.List.{All, AllByRecursion}
use Rattle.std.specs.List.Sorted.{IsStrictlySortedBy}
use Rattle.std.specs.Ordering.{is_lt, is_eq, ordering_reverse, eq_by_cmp}
use Rattle.std.specs.FinMap.{find}
use Rattle.std.specs.declared.cmp.Ordering.{Ordering}
use Rattle.std.specs.declared.cmp.Ordering.TheVariants.{Less, Equal, Greater}
use Rattle.std.proofs.lemmas.List.Elements.{All-nil, All-cons, All-head, All-tail, All-append, All-weaker}
use Rattle.outcome_fold.specs.Order.{text_cmp}
use Rattle.outcome_fold.proofs.OrderLemmas.{texts_total}
use Rattle.outcome_fold.proofs.StrictLemmas.{Timed, Above, Strict}

-- each id is below this one
abbrev pub Under : List Timed → List ℕ → Type 0
Under es id = All (λ e. text_cmp e.0 id ≡ Less) es

-- ---- the order of two ids

pub equal_is : (o : Ordering) → is_eq o ≡ true → o ≡ Equal
equal_is Less is = absurd (true≢false (sym is))
equal_is Equal is = refl
equal_is Greater is = absurd (true≢false (sym is))

-- neither below nor equal
pub greater_is : (o : Ordering) → is_lt o ≡ false → is_eq o ≡ false → o ≡ Greater
greater_is Less below equal = absurd (true≢false below)
greater_is Equal below equal = absurd (true≢false equal)
greater_is Greater below equal = refl

pub turned_less : (a b : List ℕ) → text_cmp a b ≡ Less → text_cmp b a ≡ Greater
turned_less a b is = texts_total.antisymm b a ∙ ap ordering_reverse is

pub above_more : (a b : List ℕ) (es : List Timed) → text_cmp a b ≡ Less → Above b es → Above a es
above_more a b es less above = All-weaker (λ e. text_cmp b e.0 ≡ Less) (λ e. text_cmp a e.0 ≡ Less) (λ e is. texts_total.trans a b e.0 less is) es above

pub under_more : (es : List Timed) (a b : List ℕ) → Under es a → text_cmp a b ≡ Less → Under es b
under_more es a b under less = All-weaker (λ e. text_cmp e.0 a ≡ Less) (λ e. text_cmp e.0 b ≡ Less) (λ e is. texts_total.trans e.0 a b is less) es under

-- ---- what is not found

pub not_above : (id : List ℕ) (es : List Timed) → Above id es → find text_cmp id es ≡ None
not_above id [] above = refl
not_above id (e ∷ es) above = ap (λ o. cond (is_eq o) (Some e.1) (find text_cmp id es)) (All-head (λ e. text_cmp id e.0 ≡ Less) e es above) ∙ not_above id es (All-tail (λ e. text_cmp id e.0 ≡ Less) e es above)

pub not_under : (id : List ℕ) (es : List Timed) → Under es id → find text_cmp id es ≡ None
not_under id [] under = refl
not_under id (e ∷ es) under =
    ap (λ o. cond (is_eq o) (Some e.1) (find text_cmp id es)) (turned_less e.0 id (All-head (λ e. text_cmp e.0 id ≡ Less) e es under)) ∙ not_under id es (All-tail (λ e. text_cmp e.0 id ≡ Less) e es under)

-- the first, where there is one, and else the second
abbrev pub or_else : Option ℕ → Option ℕ → Option ℕ
or_else (Some n) other = Some n
or_else None other = other

pub find_join : (xs ys : List Timed) (q : List ℕ) → find text_cmp q (xs ++ ys) ≡ or_else (find text_cmp q xs) (find text_cmp q ys)
find_join [] ys q = refl
find_join (x ∷ xs) ys q =
    elim (eq_by_cmp text_cmp q x.0) as (λ b. cond b (Some x.1) (find text_cmp q (xs ++ ys)) ≡ or_else (cond b (Some x.1) (find text_cmp q xs)) (find text_cmp q ys)) [ true ↦ refl | false ↦ find_join xs ys q ]

-- ---- the same of the ids alone

pub keys_strict : (es : List Timed) → IsStrictlySortedBy text_cmp (map (λ e. e.0) es) → Strict es
unfolding IsStrictlySortedBy
keys_strict [] sorted = tt
keys_strict (e ∷ es) sorted = (above es sorted.0, keys_strict es sorted.1)
  where
    above : (es : List Timed) → AllByRecursion (λ k. text_cmp e.0 k ≡ Less) (map (λ e. e.0) es) → Above e.0 es
    above [] all = All-nil (λ f. text_cmp e.0 f.0 ≡ Less)
    above (f ∷ es) all = All-cons (λ f. text_cmp e.0 f.0 ≡ Less) f es all.0 (above es all.1)

-- one between others
pub joined_strict : (xs : List Timed) (e : Timed) (ys : List Timed) → Strict xs → Under xs e.0 → Above e.0 ys → Strict ys → Strict (xs ++ e ∷ ys)
joined_strict [] e ys before under above strict = (above, strict)
joined_strict (x ∷ xs) e ys before under above strict =
    let less : text_cmp x.0 e.0 ≡ Less = All-head (λ f. text_cmp f.0 e.0 ≡ Less) x xs under in (
      All-append (λ f. text_cmp x.0 f.0 ≡ Less) xs (e ∷ ys) before.0 (All-cons (λ f. text_cmp x.0 f.0 ≡ Less) e ys less (above_more x.0 e.0 ys less above)),
      joined_strict xs e ys before.1 (All-tail (λ f. text_cmp f.0 e.0 ≡ Less) x xs under) above strict,
    )
