-- Maps whose keys are in order, against the tables of specs/Order.antt.
use Rattle.std.proofs.Common.{◌≡◌, Bool, true, false, ◌||◌, cond, List, [], ◌∷◌, ◌++◌, map, Option, Some, None, refl, sym, ◌∙◌, ap, length, arith}
use Rattle.std.specs.FinMap as fin
use Rattle.std.specs.FinMap.{IsAntisymmetric, find, put, same_map, get-from_entries, get-insert, get-remove, get-empty, entries-insert, len-entries, len-empty}
use Rattle.std.specs.Ordering.{eq_by_cmp}
use Rattle.std.specs.declared.cmp.Ordering.{Ordering}
use Rattle.std.specs.declared.cmp.Ordering.TheVariants.{Less}
use Rattle.std.specs.Cmp.{IsTotalOrder, Equal-is, eq_by_cmp_equiv}
use Rattle.std.specs.List.Sorted.{IsStrictlySortedBy}
use Rattle.std.specs.List.{AllByRecursion, list_any}
use Rattle.std.specs.BTreeMap.{is_at}
use Rattle.std.specs.Map.{lookup}
use Rattle.outcome_fold.specs.Order.{table}

lookup_is_find : {K V : Type 0} (R : K → K → Ordering) (q : K) (es : List (K × V)) → lookup (is_at (R q)) es ≡ find R q es
lookup_is_find R q [] = refl
lookup_is_find R q (e ∷ es) = ap (cond (eq_by_cmp R q e.0) (Some e.1)) (lookup_is_find R q es)

pub none_of_length : {A : Type 0} (es : List A) → length es ≡ 0 → es ≡ []
none_of_length [] none = refl
none_of_length (e ∷ es) none = absurd (omega arith)

put_first : {K V : Type 0} (R : K → K → Ordering) (k : K) (v : V) (es : List (K × V)) → AllByRecursion (λ y. R k y ≡ Less) (map (λ e. e.0) es) → put R k v es ≡ (k, v) ∷ es
put_first R k v [] all = refl
put_first R k v (e ∷ es) all = rw all.0

pub any_push : {A : Type 0} (p : A → Bool) (xs : List A) (x : A) → list_any p (xs ++ x ∷ []) ≡ cond (p x) true (list_any p xs)
any_push p [] x = elim (p x) as (λ b. (b || false) ≡ cond b true false) [ true ↦ refl | false ↦ refl ]
any_push p (y ∷ xs) x = elim (p y) as (λ b. (b || list_any p (xs ++ x ∷ [])) ≡ cond (p x) true (b || list_any p xs)) [ true ↦ elim (p x) as (λ b. true ≡ cond b true true) [ true ↦ refl | false ↦ refl ] | false ↦ any_push p xs x ]

-- keys that tie are one
pub tied_is : {K : Type 0} {R : K → K → Ordering} (same : IsAntisymmetric R) (q k : K) → eq_by_cmp R q k ≡ true → q ≡ k
tied_is {R = R} same q k tie = same q k ((Equal-is (R q k)).0 tie)

module _ {K V : Type 0} {R : K → K → Ordering} (o : IsTotalOrder R) where
  -- a look-up in the entries is one in the finite map
  pub lookup_in_map : (q : K) (es : List (K × V)) → lookup (is_at (R q)) es ≡ fin.get (fin.from_entries {R = R} es) q
  lookup_in_map q es = lookup_is_find R q es ∙ sym (get-from_entries o es q)

  -- entries whose keys rise are those of the finite map
  pub entries_in_order : (es : List (K × V)) → IsStrictlySortedBy R (map (λ e. e.0) es) → fin.entries (fin.from_entries {R = R} es) ≡ es
  unfolding IsStrictlySortedBy
  entries_in_order [] ordered = none_of_length _ (sym (len-entries (fin.empty {R = R})) ∙ len-empty R V)
  entries_in_order (e ∷ es) ordered =
      entries-insert o (fin.from_entries es) e.0 e.1 ∙ ap (put R e.0 e.1) (entries_in_order es ordered.1) ∙ put_first R e.0 e.1 es ordered.0

  module _ (same : IsAntisymmetric R) where
    -- where look-ups find the new value at the one key, and else what they found before, the finite map has it inserted
    pub inserted : (old new : List (K × V)) (k : K) (v : V) → ((q : K) → lookup (is_at (R q)) new ≡ cond (is_at (R k) q) (Some v) (lookup (is_at (R q)) old)) → fin.from_entries {R = R} new ≡ fin.insert (fin.from_entries old) k v
    inserted old new k v updates =
        same_map o same _ _ (λ q.
        sym (lookup_in_map q new) ∙ updates q
        ∙ ap (λ b. cond b (Some v) (lookup (is_at (R q)) old)) ((eq_by_cmp_equiv o).symm k q)
        ∙ ap (cond (eq_by_cmp R q k) (Some v)) (lookup_in_map q old)
        ∙ sym (get-insert o (fin.from_entries old) k v q))

    -- and where they find nothing at the one key, it has it removed
    pub removed : (old new : List (K × V)) (k : K) → ((q : K) → lookup (is_at (R q)) new ≡ cond (is_at (R k) q) None (lookup (is_at (R q)) old)) → fin.from_entries {R = R} new ≡ fin.remove (fin.from_entries old) k
    removed old new k updates =
        same_map o same _ _ (λ q.
        sym (lookup_in_map q new) ∙ updates q
        ∙ ap (λ b. cond b None (lookup (is_at (R q)) old)) ((eq_by_cmp_equiv o).symm k q)
        ∙ ap (cond (eq_by_cmp R q k) None) (lookup_in_map q old)
        ∙ sym (get-remove o (fin.from_entries old) k q))

    found : (f : K → V) (q k : K) (b : Bool) → eq_by_cmp R q k ≡ b → (rest : Option V) (any : Bool) → rest ≡ cond any (Some (f q)) None → cond b (Some (f k)) rest ≡ cond (b || any) (Some (f q)) None
    found f q k true tie rest any is = ap (λ x. Some (f x)) (sym (tied_is same q k tie))
    found f q k false tie rest any is = is

    -- a table has its value at each of its keys
    pub get-table : (f : K → V) (ks : List K) (q : K) → fin.get (table {R = R} f ks) q ≡ cond (list_any (eq_by_cmp R q) ks) (Some (f q)) None
    get-table f [] q = get-empty R q
    get-table f (k ∷ ks) q = get-insert o (table f ks) k (f k) q ∙ found f q k (eq_by_cmp R q k) refl _ _ (get-table f ks q)

    pushed : (f g : K → V) (q k : K) (b : Bool) → eq_by_cmp R q k ≡ b → (any : Bool) → (b ≡ false → any ≡ true → g q ≡ f q) → cond (cond b true any) (Some (g q)) None ≡ cond b (Some (g k)) (cond any (Some (f q)) None)
    pushed f g q k true tie any agree = ap (λ x. Some (g x)) (tied_is same q k tie)
    pushed f g q k false tie true agree = ap Some (agree refl refl)
    pushed f g q k false tie false agree = refl

    -- one more key, which leaves the others' values as they were
    pub table_push : (f g : K → V) (ks : List K) (k : K) → ((q : K) → eq_by_cmp R q k ≡ false → list_any (eq_by_cmp R q) ks ≡ true → g q ≡ f q) → table {R = R} g (ks ++ k ∷ []) ≡ fin.insert (table f ks) k (g k)
    table_push f g ks k agree = same_map o same _ _ (λ q.
        get-table g (ks ++ k ∷ []) q
        ∙ ap (λ b. cond b (Some (g q)) None) (any_push (eq_by_cmp R q) ks k)
        ∙ pushed f g q k (eq_by_cmp R q k) refl (list_any (eq_by_cmp R q) ks) (agree q)
        ∙ ap (cond (eq_by_cmp R q k) (Some (g k))) (sym (get-table f ks q))
        ∙ sym (get-insert o (table f ks) k (g k) q))

pub keys_in_order : {K V : Type 0} {R : K → K → Ordering} (o : IsTotalOrder R) (es : List (K × V)) → IsStrictlySortedBy R (map (λ e. e.0) es) → fin.keys (fin.from_entries {R = R} es) ≡ map (λ e. e.0) es
keys_in_order o es ordered = ap (map (λ e. e.0)) (entries_in_order o es ordered)
