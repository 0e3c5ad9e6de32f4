-- The form of a file of ids determines what it holds.
use Rattle.std.proofs.Common.{◌≡◌, ◌≢◌, ℕ, ◌+◌, ◌<◌, ◌^◌, true, false, true≢false, ◌==◌, List, [], ◌∷◌, ◌++◌, length, refl, sym, ap, ◌∙◌, subst, append_assoc, arith, eqb-true}
use Rattle.std.specs.Fmt.{decimal}
use Rattle.std.specs.List.{All, AllByRecursion, flat_map}
use Rattle.std.specs.List.Sorted.{IsStrictlySortedBy}
use Rattle.std.specs.declared.cmp.Ordering.TheVariants.{Less}
use Rattle.std.proofs.lemmas.Fmt.{decimal_by_steps}
use Rattle.std.proofs.lemmas.List.{append-nil}
use Rattle.std.proofs.lemmas.List.Elements.{All-nil, All-cons, All-head, All-tail, All-push}
use Rattle.sub_number.specs.Texts.{IsShortText}
use Rattle.std.specs.Cmp.Lexicographic.{slice_cmp}
use Rattle.std.specs.Ordering.{nat_cmp}
use Rattle.run_shelf.specs.IdFiles.{with_zero, Lacks, AreIds, AreEntries}

first_of : List ℕ → ℕ
first_of [] = 0
first_of (x ∷ xs) = x

rest_of : List ℕ → List ℕ
rest_of [] = []
rest_of (x ∷ xs) = xs

same_first : (x y : ℕ) (xs ys : List ℕ) → x ∷ xs ≡ y ∷ ys → x ≡ y
unfolding first_of
same_first x y xs ys same = ap first_of same

pub same_rest : (x y : ℕ) (xs ys : List ℕ) → x ∷ xs ≡ y ∷ ys → xs ≡ ys
unfolding rest_of
same_rest x y xs ys same = ap rest_of same

-- what stands before the first mark, and behind it
pub cut_same : (mark : ℕ) (xs ys r s : List ℕ) → Lacks mark xs → Lacks mark ys → xs ++ mark ∷ r ≡ ys ++ mark ∷ s → (ys ≡ xs) × (s ≡ r)
cut_same mark [] [] r s lacks also same = (refl, sym (same_rest mark mark r s same))
cut_same mark [] (y ∷ ys) r s lacks also same = absurd (All-head (λ b. b ≢ mark) y ys also (sym (same_first mark y r (ys ++ mark ∷ s) same)))
cut_same mark (x ∷ xs) [] r s lacks also same = absurd (All-head (λ b. b ≢ mark) x xs lacks (same_first x mark (xs ++ mark ∷ r) s same))
cut_same mark (x ∷ xs) (y ∷ ys) r s lacks also same =
    let rest = cut_same mark xs ys r s (All-tail (λ b. b ≢ mark) x xs lacks) (All-tail (λ b. b ≢ mark) y ys also) (same_rest x y (xs ++ mark ∷ r) (ys ++ mark ∷ s) same) in
    let first : y ≡ x = sym (same_first x y (xs ++ mark ∷ r) (ys ++ mark ∷ s) same) in
    ((λ i. first i ∷ rest.0 i), rest.1)

-- there is a mark
pub has_mark : (mark : ℕ) (xs r : List ℕ) → Lacks mark (xs ++ mark ∷ r) → ⊥
has_mark mark [] r lacks = All-head (λ b. b ≢ mark) mark r lacks refl
has_mark mark (x ∷ xs) r lacks = has_mark mark xs r (All-tail (λ b. b ≢ mark) x (xs ++ mark ∷ r) lacks)

-- a number in decimal is digits alone
pub decimal_digits : (mark n : ℕ) → mark < 48 → n < 2 ^ 64 → Lacks mark (decimal n)
decimal_digits mark n low fits =
    decimal_by_steps (λ m ds. Lacks mark ds) (λ m one. All-cons (λ b. b ≢ mark) (48 + m) [] (λ is. omega (arith, is, low)) (All-nil (λ b. b ≢ mark)))
    (λ m ds more here. All-push (λ b. b ≢ mark) ds _ here (λ is. omega (arith, is, low))) n fits

pub no_zero : (text : List ℕ) → IsShortText text → Lacks 0 text
no_zero text short = short.text.no_nul

-- a piece with a mark behind it
pub piece_behind : (mark : ℕ) (text rest : List ℕ) → (text ++ mark ∷ []) ++ rest ≡ text ++ mark ∷ rest
piece_behind mark text rest = append_assoc text (mark ∷ []) rest

pub entries_more : (id : List ℕ) (ids : List (List ℕ)) (rest : List ℕ) → flat_map with_zero (id ∷ ids) ++ rest ≡ id ++ 0 ∷ (flat_map with_zero ids ++ rest)
entries_more id ids rest = append_assoc (with_zero id) (flat_map with_zero ids) rest ∙ piece_behind 0 id (flat_map with_zero ids ++ rest)

-- the entries with which others begin
pub entries_begin : (ids others : List (List ℕ)) (rest : List ℕ) → All IsShortText ids → All IsShortText others → flat_map with_zero ids ++ rest ≡ flat_map with_zero others
    → (more : List (List ℕ)) × (others ≡ ids ++ more) × (rest ≡ flat_map with_zero more)
entries_begin [] others rest texts also same = (others, refl, same)
entries_begin (id ∷ ids) [] rest texts also same = absurd (omega (arith, ap length (sym (entries_more id ids rest) ∙ same), length_mark id (flat_map with_zero ids ++ rest)))
  where
    length_mark : (xs r : List ℕ) → 0 < length (xs ++ 0 ∷ r)
    length_mark [] r = omega arith
    length_mark (x ∷ xs) r = omega arith
entries_begin (id ∷ ids) (other ∷ others) rest texts also same =
    let parts = cut_same 0 id other (flat_map with_zero ids ++ rest) (flat_map with_zero others) (no_zero id (All-head IsShortText id ids texts)) (no_zero other (All-head IsShortText other others also))
    (sym (entries_more id ids rest) ∙ same ∙ piece_behind 0 other (flat_map with_zero others)) in
    let begun = entries_begin ids others rest (All-tail IsShortText id ids texts) (All-tail IsShortText other others also) (sym parts.1) in
    (begun.0, (λ i. parts.0 i ∷ begun.1 i), begun.2)

-- one entry more
pub entries_push : (bytes : List ℕ) (ids : List (List ℕ)) (id rest behind : List ℕ) → bytes ≡ flat_map with_zero ids ++ rest → rest ≡ id ++ 0 ∷ behind → bytes ≡ flat_map with_zero (ids ++ id ∷ []) ++ behind
entries_push bytes ids id rest behind is cut = is ∙ ap (λ l. flat_map with_zero ids ++ l) cut ∙ sym (pushed ids)
  where
    pushed : (ids : List (List ℕ)) → flat_map with_zero (ids ++ id ∷ []) ++ behind ≡ flat_map with_zero ids ++ (id ++ 0 ∷ behind)
    pushed [] = entries_more id [] behind
    pushed (x ∷ ids) =
        entries_more x (ids ++ id ∷ []) behind
        ∙ ap (λ l. x ++ 0 ∷ l) (pushed ids)
        ∙ sym (append_assoc (with_zero x) (flat_map with_zero ids) (id ++ 0 ∷ behind) ∙ piece_behind 0 x (flat_map with_zero ids ++ (id ++ 0 ∷ behind)))

-- ---- texts in order

pub sorted_front : (ids : List (List ℕ)) (id : List ℕ) (more : List (List ℕ)) → IsStrictlySortedBy (slice_cmp nat_cmp) (ids ++ id ∷ more) → IsStrictlySortedBy (slice_cmp nat_cmp) (ids ++ id ∷ [])
unfolding IsStrictlySortedBy
sorted_front [] id more sorted = (tt, tt)
sorted_front (x ∷ ids) id more sorted = (front ids sorted.0, sorted_front ids id more sorted.1)
  where
    front : (ids : List (List ℕ)) → AllByRecursion (λ y. slice_cmp nat_cmp x y ≡ Less) (ids ++ id ∷ more) → AllByRecursion (λ y. slice_cmp nat_cmp x y ≡ Less) (ids ++ id ∷ [])
    front [] all = (all.0, tt)
    front (y ∷ ids) all = (all.0, front ids all.1)

texts_front : (ids : List (List ℕ)) (id : List ℕ) (more : List (List ℕ)) → All IsShortText (ids ++ id ∷ more) → All IsShortText (ids ++ id ∷ [])
texts_front [] id more all = All-cons IsShortText id [] (All-head IsShortText id more all) (All-nil IsShortText)
texts_front (x ∷ ids) id more all = All-cons IsShortText x (ids ++ id ∷ []) (All-head IsShortText x (ids ++ id ∷ more) all) (texts_front ids id more (All-tail IsShortText x (ids ++ id ∷ more) all))

pub ids_front : (ids : List (List ℕ)) (id : List ℕ) (more : List (List ℕ)) → AreIds (ids ++ id ∷ more) → AreIds (ids ++ id ∷ [])
ids_front ids id more are = record { texts = texts_front ids id more are.texts; ordered = sorted_front ids id more are.ordered }

-- ---- why bytes are no entries

-- the next entry is not one that may come
pub next_refused : (bytes : List ℕ) (ids : List (List ℕ)) (id rest behind : List ℕ) → AreIds ids → bytes ≡ flat_map with_zero ids ++ rest → rest ≡ id ++ 0 ∷ behind → Lacks 0 id → (AreIds (ids ++ id ∷ []) → ⊥)
    → (others : List (List ℕ)) → AreEntries bytes others → ⊥
next_refused bytes ids id rest behind are is cut lacks refused others entries =
    let begun = entries_begin ids others rest are.texts entries.are.texts (sym is ∙ entries.is) in
    refuse begun.0 begun.1 (sym cut ∙ begun.2)
  where
    refuse : (more : List (List ℕ)) → others ≡ ids ++ more → id ++ 0 ∷ behind ≡ flat_map with_zero more → ⊥
    refuse [] same pieces = omega (arith, ap length pieces, length_mark id behind)
      where
        length_mark : (xs r : List ℕ) → 0 < length (xs ++ 0 ∷ r)
        length_mark [] r = omega arith
        length_mark (x ∷ xs) r = omega arith
    refuse (other ∷ more) same pieces =
        let all : AreIds (ids ++ other ∷ more) = subst AreIds same entries.are in
        let one : AreIds (ids ++ other ∷ []) = ids_front ids other more all in
        let text : IsShortText other = last_text ids other one.texts in
        let parts = cut_same 0 id other behind (flat_map with_zero more) lacks (no_zero other text) (pieces ∙ piece_behind 0 other (flat_map with_zero more)) in
        refused (subst (λ (l : List ℕ). AreIds (ids ++ l ∷ [])) parts.0 one)
      where
        last_text : (ids : List (List ℕ)) (id : List ℕ) → All IsShortText (ids ++ id ∷ []) → IsShortText id
        last_text [] id all = All-head IsShortText id [] all
        last_text (x ∷ ids) id all = last_text ids id (All-tail IsShortText x (ids ++ id ∷ []) all)

-- bytes without a zero byte at the end
pub end_refused : (bytes : List ℕ) (ids : List (List ℕ)) (rest : List ℕ) → AreIds ids → bytes ≡ flat_map with_zero ids ++ rest → Lacks 0 rest → (rest ≡ [] → ⊥) → (others : List (List ℕ)) → AreEntries bytes others → ⊥
end_refused bytes ids rest are is lacks some others entries =
    let begun = entries_begin ids others rest are.texts entries.are.texts (sym is ∙ entries.is) in
    refuse begun.0 begun.2
  where
    refuse : (more : List (List ℕ)) → rest ≡ flat_map with_zero more → ⊥
    refuse [] pieces = some pieces
    refuse (other ∷ more) pieces = has_mark 0 other (flat_map with_zero more) (subst (Lacks 0) (pieces ∙ piece_behind 0 other (flat_map with_zero more)) lacks)

-- all of them
pub entries_all : (bytes : List ℕ) (ids : List (List ℕ)) (rest : List ℕ) → bytes ≡ flat_map with_zero ids ++ rest → rest ≡ [] → AreIds ids → AreEntries bytes ids
entries_all bytes ids rest is none are = record { is = is ∙ ap (λ l. flat_map with_zero ids ++ l) none ∙ append-nil (flat_map with_zero ids); are = are }

pub no_ids : AreIds []
unfolding IsStrictlySortedBy
no_ids = record { texts = All-nil IsShortText; ordered = tt }

-- the entries tell the texts
pub entries_same : (ids others : List (List ℕ)) → All IsShortText ids → All IsShortText others → flat_map with_zero ids ≡ flat_map with_zero others → others ≡ ids
entries_same ids others texts also same =
    let begun = entries_begin ids others [] texts also (append-nil (flat_map with_zero ids) ∙ same) in
    begun.1 ∙ ap (λ (l : List (List ℕ)). ids ++ l) (none begun.0 begun.2) ∙ append-nil ids
  where
    none : (more : List (List ℕ)) → [] ≡ flat_map with_zero more → more ≡ []
    none [] is = refl
    none (id ∷ more) is = absurd (omega (arith, ap length (is ∙ piece_behind 0 id (flat_map with_zero more)), length_mark id (flat_map with_zero more)))
      where
        length_mark : (xs r : List ℕ) → 0 < length (xs ++ 0 ∷ r)
        length_mark [] r = omega arith
        length_mark (x ∷ xs) r = omega arith

pub not_empty : (bytes : List ℕ) → false ≡ (length bytes == 0) → bytes ≡ [] → ⊥
not_empty [] e none = true≢false (sym e)
not_empty (b ∷ bytes) e none = omega (arith, ap length none)

pub empty_by : (bytes : List ℕ) → true ≡ (length bytes == 0) → bytes ≡ []
empty_by [] e = refl
empty_by (b ∷ bytes) e = absurd (omega (arith, eqb-true (length (b ∷ bytes)) 0 (sym e)))
