-- Suspects that are gathered one after another, and where they stand.
use Rattle.std.proofs.Common.{◌≡◌, ℕ, suc, ◌+◌, ◌==◌, Bool, true, false, not, ◌||◌, ◌&&◌, cond, nat_eq, Option, None, Some, Result, OnOk, List, [], ◌∷◌, ◌++◌, refl, sym, ◌∙◌, ap, subst, arith}
use Rattle.std.specs.Cmp.Lexicographic.{pointwise, texts_ties}
use Rattle.std.specs.List.{filter, filter_map, cons_option, list_any, find, range_with_len}
use Rattle.std.specs.Option.{option_map}
use Rattle.std.proofs.lemmas.Bool.Decides.{nat_tests}
use Rattle.std.proofs.lemmas.List.{append-nil}
use Rattle.std.proofs.lemmas.List.Elements.{filter-append, filter_map-append}
use Rattle.std.proofs.lemmas.Map.Views.{any-filter_same}
use Rattle.outcome_fold.proofs.OrderLemmas.{exact_texts}
use Rattle.outcome_fold.proofs.TableLemmas.{tied_is}
use Rattle.outcome_fold.specs.declared.row.Row.{Row}
use Rattle.suite_causes.specs.Suspects.{is_same_suspect, first_suspects, suspect_in, suspects_of}
use Rattle.suite_causes.specs.declared.suspects.Suspect.{Suspect}

-- ---- of repeats the first

both : (a b : Bool) → (a && b) ≡ true → (a ≡ true) × (b ≡ true)
both true b h = (refl, h)
both false b h = absurd (grind (arith, h))

same_text : (s t : List ℕ) → pointwise nat_eq s t ≡ true → s ≡ t
same_text s t same = tied_is exact_texts s t (sym (texts_ties s t) ∙ same)

same_is : (one other : Suspect) → is_same_suspect one other ≡ true → one ≡ other
same_is one other same =
    let (lanes, ids) = both (one.lane == other.lane) (pointwise nat_eq one.id other.id) same in
    let lane : one.lane ≡ other.lane = grind (arith, nat_tests) in
    let id : one.id ≡ other.id = same_text one.id other.id ids in
    λ i. record { id = id i; lane = lane i }

or_else : (a b : Bool) → (a || (not a && b)) ≡ (a || b)
or_else true b = refl
or_else false b = refl

-- the first ones have all that there is
any_first : (list : List Suspect) (one : Suspect) → list_any (λ other. is_same_suspect other one) (first_suspects list) ≡ list_any (λ other. is_same_suspect other one) list
any_first [] one = refl
any_first (first ∷ list) one =
    ap (λ b. is_same_suspect first one || b)
    (any-filter_same (λ other. is_same_suspect other one) (λ other. not (is_same_suspect first other)) (not (is_same_suspect first one)) (λ k is. ap (λ other. not (is_same_suspect first other)) (same_is k one is)) (first_suspects list)
    ∙ ap (λ b. not (is_same_suspect first one) && b) (any_first list one))
    ∙ or_else (is_same_suspect first one) (list_any (λ other. is_same_suspect other one) list)

-- the test, where it is not taken out
without_one : (first one : Suspect) (there : Bool) → filter (λ other. not (is_same_suspect first other)) (cond there [] (one ∷ [])) ≡ cond (is_same_suspect first one || there) [] (one ∷ [])
without_one first one true = elim (is_same_suspect first one) as (λ e. [] ≡ cond (e || true) [] (one ∷ [])) [ true ↦ refl | false ↦ refl ]
without_one first one false = elim (is_same_suspect first one) as (λ e. cond (not e) (one ∷ []) [] ≡ cond (e || false) [] (one ∷ [])) [ true ↦ refl | false ↦ refl ]

first_push : (list : List Suspect) (one : Suspect) → first_suspects (list ++ one ∷ []) ≡ first_suspects list ++ cond (list_any (λ other. is_same_suspect other one) list) [] (one ∷ [])
first_push [] one = refl
first_push (first ∷ list) one =
    let there : Bool = list_any (λ other. is_same_suspect other one) list in
    ap (λ l. first ∷ filter (λ other. not (is_same_suspect first other)) l) (first_push list one)
    ∙ ap (λ l. first ∷ l) (filter-append (λ other. not (is_same_suspect first other)) (first_suspects list) (cond there [] (one ∷ [])))
    ∙ ap (λ l. first ∷ (filter (λ other. not (is_same_suspect first other)) (first_suspects list) ++ l)) (without_one first one there)

-- ---- rows, one after another

rows_push : (rows : List Row) (row : Row) → filter_map suspect_in (rows ++ row ∷ []) ≡ filter_map suspect_in rows ++ cons_option (suspect_in row) []
rows_push rows row = filter_map-append suspect_in rows (row ∷ [])

pub no_suspect : (rows : List Row) (row : Row) → suspect_in row ≡ None → suspects_of (rows ++ row ∷ []) ≡ suspects_of rows
no_suspect rows row none = ap first_suspects (rows_push rows row ∙ ap (λ o. filter_map suspect_in rows ++ cons_option o []) none ∙ append-nil (filter_map suspect_in rows))

added : (b : Bool) (list : List Suspect) (one : Suspect) → list ++ cond b [] (one ∷ []) ≡ cond b list (list ++ one ∷ [])
added true list one = append-nil list
added false list one = refl

pub one_suspect : (rows : List Row) (row : Row) (one : Suspect) → suspect_in row ≡ Some one
    → suspects_of (rows ++ row ∷ []) ≡ cond (list_any (λ other. is_same_suspect other one) (suspects_of rows)) (suspects_of rows) (suspects_of rows ++ one ∷ [])
one_suspect rows row one is =
    let list : List Suspect = filter_map suspect_in rows in
    ap first_suspects (rows_push rows row ∙ ap (λ o. list ++ cons_option o []) is)
    ∙ first_push list one
    ∙ added (list_any (λ other. is_same_suspect other one) list) (first_suspects list) one
    ∙ ap (λ b. cond b (first_suspects list) (first_suspects list ++ one ∷ [])) (sym (any_first list one))

-- ---- lanes

-- the first lanes are not the one, so that it is looked for among the others
pub find_on : (p : ℕ → Bool) (lane left next rest : ℕ) → left ≡ suc rest → next ≡ lane + 1 → p lane ≡ false → find p (range_with_len lane left) ≡ find p (range_with_len next rest)
find_on p lane left next rest is next-is other =
    ap (λ n. find p (range_with_len lane n)) is ∙ ap (λ b. cond b (Some lane) (find p (range_with_len (lane + 1) rest))) other ∙ ap (λ n. find p (range_with_len n rest)) (sym next-is)

pub find_here : (p : ℕ → Bool) (lane left rest : ℕ) → left ≡ suc rest → p lane ≡ true → find p (range_with_len lane left) ≡ Some lane
find_here p lane left rest is here = ap (λ n. find p (range_with_len lane n)) is ∙ ap (λ b. cond b (Some lane) (find p (range_with_len (lane + 1) rest))) here

-- ---- one row more

pub takes_none : (list : List Suspect) (rows : List Row) (row : Row) (lane : Option ℕ) → option_map (λ lane. record { id = row.id; lane = lane }) lane ≡ suspect_in row → lane ≡ None → list ≡ suspects_of rows → list ≡ suspects_of (rows ++ row ∷ [])
takes_none list rows row lane same none is =
    is ∙ sym (no_suspect rows row (sym same ∙ ap (option_map (λ lane. record { id = row.id; lane = lane })) none))

pub takes_one : {T E : Type 0} (r : Result T E) (old new : List Suspect) (rows : List Row) (row : Row) (found : Option ℕ) (lane : ℕ) → option_map (λ lane. record { id = row.id; lane = lane }) found ≡ suspect_in row → found ≡ Some lane
    → OnOk r (new ≡ cond (list_any (λ other. is_same_suspect other (record { id = row.id; lane = lane })) old) old (old ++ record { id = row.id; lane = lane } ∷ []))
    → old ≡ suspects_of rows → OnOk r (new ≡ suspects_of (rows ++ row ∷ []))
takes_one r old new rows row found lane same some added is =
    let one : Suspect = record { id = row.id; lane = lane } in
    let suspect : suspect_in row ≡ Some one = sym same ∙ ap (option_map (λ lane. record { id = row.id; lane = lane })) some in
    subst (λ l. OnOk r (new ≡ l)) (sym (one_suspect rows row one suspect))
    (subst (λ l. OnOk r (new ≡ cond (list_any (λ other. is_same_suspect other one) l) l (l ++ one ∷ []))) is added)
