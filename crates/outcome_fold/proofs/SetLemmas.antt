-- Texts in order, each once.
use Rattle.std.proofs.Common.{◌≡◌, ℕ, ◌+◌, ◌<◌, Bool, true, false, not, ◌&&◌, ◌||◌, cond, List, [], ◌∷◌, ◌++◌, Some, None, is_some, map, take, length, get_or, refl, sym, ◌∙◌, ap, subst, append_assoc}
use Rattle.std.specs.FinMap as fin
use Rattle.std.specs.FinMap.{same_map, contains_key-keys}
use Rattle.std.specs.Ordering.{eq_by_cmp}
use Rattle.std.specs.BTreeMap.{is_at}
use Rattle.std.specs.Cmp.{eq_by_cmp_equiv}
use Rattle.std.specs.Prelude.{nat_eq}
use Rattle.std.specs.Cmp.Lexicographic.{pointwise, texts_ties}
use Rattle.std.specs.List.{filter, list_any, dedup, dedup_from}
use Rattle.std.specs.List.Sorted.{IsStrictlySortedBy, IsSorted, IsPermutation}
use Rattle.std.proofs.lemmas.List.{take_more}
use Rattle.std.proofs.lemmas.List.Folds.{list_any-append}
use Rattle.std.proofs.lemmas.List.Kept.{IsStrictlySortedBy-filter, IsStrictlySortedBy-dedup}
use Rattle.std.proofs.lemmas.List.Sorted.{list_any-IsPermutation}
use Rattle.std.proofs.lemmas.Map.Views.{any-filter_same}
use Rattle.outcome_fold.specs.Order.{text_cmp, text_table, in_byte_order, among, without}
use Rattle.outcome_fold.proofs.TableLemmas.{get-table, tied_is, any_push, keys_in_order}
use Rattle.outcome_fold.proofs.OrderLemmas.{texts_total, exact_texts}

pub take_one_more : (texts : List (List ℕ)) (i : ℕ) (text : List ℕ) → i < length texts → text ≡ get_or texts i text → take (i + 1) texts ≡ take i texts ++ text ∷ []
take_one_more texts i text below is = take_more texts i text below ∙ ap (λ x. take i texts ++ x ∷ []) (sym is)

-- ---- the order depends on nothing but which texts there are

in_table : (texts : List (List ℕ)) (q : List ℕ) → fin.get (text_table texts) q ≡ cond (among texts q) (Some (tt {0})) None
in_table texts q = get-table texts_total exact_texts (λ text. tt) texts q

pub same_order : (texts others : List (List ℕ)) → ((q : List ℕ) → among texts q ≡ among others q) → in_byte_order texts ≡ in_byte_order others
same_order texts others same = ap fin.keys (same_map texts_total exact_texts _ _ (λ q. in_table texts q ∙ ap (λ b. cond b (Some (tt {0})) None) (same q) ∙ sym (in_table others q)))

-- the order has the texts, and no others
pub among_order : (texts : List (List ℕ)) (q : List ℕ) → among (in_byte_order texts) q ≡ among texts q
among_order texts q = sym (contains_key-keys (text_table texts) q) ∙ ap is_some (in_table texts q) ∙ there (among texts q)
  where
    there : (b : Bool) → is_some (cond b (Some (tt {0})) None) ≡ b
    there true = refl
    there false = refl

abbrev text_entries : List (List ℕ) → List (List ℕ × Unit {0})
text_entries texts = map (λ text. (text, tt {0})) texts

table_of_entries : (texts : List (List ℕ)) → text_table texts ≡ fin.from_entries (text_entries texts)
table_of_entries [] = refl
table_of_entries (text ∷ texts) = ap (λ t. fin.insert t text tt) (table_of_entries texts)

entries_of_texts : (texts : List (List ℕ)) → map (λ e. e.0) (text_entries texts) ≡ texts
entries_of_texts [] = refl
entries_of_texts (text ∷ texts) = ap (λ l. text ∷ l) (entries_of_texts texts)

-- texts in order stay as they are
pub ordered_already : (texts : List (List ℕ)) → IsStrictlySortedBy text_cmp texts → in_byte_order texts ≡ texts
ordered_already texts ordered =
    ap fin.keys (table_of_entries texts) ∙ keys_in_order texts_total (text_entries texts) (subst (IsStrictlySortedBy text_cmp) (sym (entries_of_texts texts)) ordered) ∙ entries_of_texts texts

pub order_of_none : in_byte_order [] ≡ []
unfolding IsStrictlySortedBy
order_of_none = ordered_already [] tt

-- ---- more texts

pub among_both : (texts others : List (List ℕ)) (q : List ℕ) → among (texts ++ others) q ≡ (among texts q || among others q)
among_both texts others q = list_any-append (eq_by_cmp text_cmp q) texts others

-- some are in order already
pub order_append : (texts others : List (List ℕ)) → in_byte_order (in_byte_order texts ++ others) ≡ in_byte_order (texts ++ others)
order_append texts others = same_order (in_byte_order texts ++ others) (texts ++ others) (λ q. among_both (in_byte_order texts) others q ∙ ap (λ b. b || among others q) (among_order texts q) ∙ sym (among_both texts others q))

pub order_push : (texts : List (List ℕ)) (text : List ℕ) → in_byte_order (text ∷ in_byte_order texts) ≡ in_byte_order (texts ++ text ∷ [])
order_push texts text = same_order (text ∷ in_byte_order texts) (texts ++ text ∷ []) (λ q. ap (λ b. eq_by_cmp text_cmp q text || b) (among_order texts q) ∙ turn (eq_by_cmp text_cmp q text) (among texts q) ∙ sym (any_push (eq_by_cmp text_cmp q) texts text))
  where
    turn : (e a : Bool) → (e || a) ≡ cond e true a
    turn true a = refl
    turn false a = refl

-- one text more of those that come behind the old ones
pub one_inserted : (old texts now : List (List ℕ)) (i : ℕ) (text : List ℕ) → now ≡ in_byte_order (old ++ take i texts) → i < length texts → text ≡ get_or texts i text → in_byte_order (text ∷ now) ≡ in_byte_order (old ++ take (i + 1) texts)
one_inserted old texts now i text is below text-is =
    ap (λ l. in_byte_order (text ∷ l)) is ∙ order_push (old ++ take i texts) text
    ∙ ap in_byte_order (append_assoc old (take i texts) (text ∷ []) ∙ ap (λ l. old ++ l) (sym (take_one_more texts i text below text-is)))

pub order_again : (texts : List (List ℕ)) → in_byte_order (in_byte_order texts) ≡ in_byte_order texts
order_again texts = same_order (in_byte_order texts) texts (among_order texts)

-- ---- what a call of the ordered set makes of its texts

pub set_inserted : (old new : List (List ℕ)) (text : List ℕ) → IsStrictlySortedBy text_cmp new → ((q : List ℕ) → list_any (is_at (text_cmp q)) new ≡ cond (is_at (text_cmp text) q) true (list_any (is_at (text_cmp q)) old)) → new ≡ in_byte_order (text ∷ old)
set_inserted old new text ordered updates =
    sym (ordered_already new ordered) ∙ same_order new (text ∷ old) (λ q. updates q ∙ put (is_at (text_cmp text) q) (among old q) ∙ ap (λ b. b || among old q) ((eq_by_cmp_equiv texts_total).symm text q))
  where
    put : (b c : Bool) → cond b true c ≡ (b || c)
    put true c = refl
    put false c = refl

-- a text that is there already
pub set_has : (texts : List (List ℕ)) (text : List ℕ) → IsStrictlySortedBy text_cmp texts → true ≡ among texts text → texts ≡ in_byte_order (text ∷ texts)
set_has texts text ordered is = sym (ordered_already texts ordered) ∙ same_order texts (text ∷ texts) (λ q. has q (eq_by_cmp text_cmp q text) refl)
  where
    has : (q : List ℕ) (tie : Bool) → eq_by_cmp text_cmp q text ≡ tie → among texts q ≡ (tie || among texts q)
    has q true tie = ap (among texts) (tied_is exact_texts q text tie) ∙ sym is
    has q false tie = refl

pub among_without : (texts others : List (List ℕ)) (q : List ℕ) → among (without texts others) q ≡ (not (among others q) && among texts q)
among_without texts others q =
    any-filter_same (eq_by_cmp text_cmp q) (λ text. not (among others text)) (not (among others q)) (λ k tie. ap (λ text. not (among others text)) (sym (tied_is exact_texts q k tie))) texts

pub set_removed : (old new : List (List ℕ)) (text : List ℕ) → IsStrictlySortedBy text_cmp old → IsStrictlySortedBy text_cmp new → ((q : List ℕ) → list_any (is_at (text_cmp q)) new ≡ cond (is_at (text_cmp text) q) false (list_any (is_at (text_cmp q)) old)) → new ≡ without old (text ∷ [])
set_removed old new text ordered ordered_now updates =
    sym (ordered_already new ordered_now)
    ∙ same_order new (without old (text ∷ [])) (λ q. updates q ∙ ap (λ b. cond b false (among old q)) ((eq_by_cmp_equiv texts_total).symm text q) ∙ gone (eq_by_cmp text_cmp q text) (among old q) ∙ sym (among_without old (text ∷ []) q))
    ∙ ordered_already (without old (text ∷ [])) (IsStrictlySortedBy-filter text_cmp (λ other. not (among (text ∷ []) other)) old ordered)
  where
    gone : (b c : Bool) → cond b false c ≡ (not (b || false) && c)
    gone true c = refl
    gone false c = refl

-- ---- fewer texts, one by one

pub without_none : (texts : List (List ℕ)) → texts ≡ without texts []
without_none [] = refl
without_none (text ∷ texts) = ap (λ l. text ∷ l) (without_none texts)

filter_twice : (p q r : List ℕ → Bool) → ((x : List ℕ) → (q x && p x) ≡ r x) → (xs : List (List ℕ)) → filter p (filter q xs) ≡ filter r xs
filter_twice p q r each [] = refl
filter_twice p q r each (x ∷ xs) =
    let rest : filter p (filter q xs) ≡ filter r xs = filter_twice p q r each xs in
    elim (q x) as (λ b. filter p (cond b (x ∷ filter q xs) (filter q xs)) ≡ cond (b && p x) (x ∷ filter r xs) (filter r xs)) [ true ↦ ap (λ (l : List (List ℕ)). cond (p x) (x ∷ l) l) rest | false ↦ rest ]
    ∙ ap (λ b. cond b (x ∷ filter r xs) (filter r xs)) (each x)

pub without_more : (texts others : List (List ℕ)) (other : List ℕ) → without (without texts others) (other ∷ []) ≡ without texts (others ++ other ∷ [])
without_more texts others other =
    filter_twice (λ text. not (among (other ∷ []) text)) (λ text. not (among others text)) (λ text. not (among (others ++ other ∷ []) text))
    (λ text. neither (among others text) (eq_by_cmp text_cmp text other) ∙ ap not (sym (any_push (eq_by_cmp text_cmp text) others other))) texts
  where
    neither : (a e : Bool) → (not a && not (e || false)) ≡ not (cond e true a)
    neither true true = refl
    neither true false = refl
    neither false true = refl
    neither false false = refl

-- ---- texts that were sorted, and of which each was kept once

twice : (a : Bool) (r : Bool) → (a || r) ≡ (a || (a || r))
twice true r = refl
twice false r = refl

from_next : (p : List ℕ → Bool) (k x : List ℕ) (xs : List (List ℕ)) (b : Bool) → pointwise nat_eq x k ≡ b → ((y : List ℕ) → list_any p (dedup_from (pointwise nat_eq) y xs) ≡ (p y || list_any p xs))
    → list_any p (cond b (dedup_from (pointwise nat_eq) k xs) (k ∷ dedup_from (pointwise nat_eq) x xs)) ≡ (p k || (p x || list_any p xs))
from_next p k x xs true tie rest = rest k ∙ twice (p k) (list_any p xs) ∙ ap (λ t. p k || (p t || list_any p xs)) (sym (tied_is exact_texts x k (sym (texts_ties x k) ∙ tie)))
from_next p k x xs false tie rest = ap (λ b. p k || b) (rest x)

any_from : (p : List ℕ → Bool) (xs : List (List ℕ)) (k : List ℕ) → list_any p (dedup_from (pointwise nat_eq) k xs) ≡ (p k || list_any p xs)
any_from p [] k = refl
any_from p (x ∷ xs) k = from_next p k x xs (pointwise nat_eq x k) refl (any_from p xs)

any_dedup : (p : List ℕ → Bool) (xs : List (List ℕ)) → list_any p (dedup (pointwise nat_eq) xs) ≡ list_any p xs
any_dedup p [] = refl
any_dedup p (x ∷ xs) = any_from p xs x

pub ordered_by_sort : (texts sorted kept : List (List ℕ)) → IsPermutation texts sorted → IsSorted text_cmp sorted → kept ≡ dedup (pointwise nat_eq) sorted → kept ≡ in_byte_order texts
ordered_by_sort texts sorted kept moved order is =
    let strictly : IsStrictlySortedBy text_cmp kept = subst (IsStrictlySortedBy text_cmp) (sym is) (IsStrictlySortedBy-dedup texts_total texts_ties sorted order) in
    sym (ordered_already kept strictly)
    ∙ same_order kept texts (λ q. ap (λ l. among l q) is ∙ any_dedup (eq_by_cmp text_cmp q) sorted ∙ sym (list_any-IsPermutation (eq_by_cmp text_cmp q) texts sorted moved))

-- a set into which some texts were put, and one more
pub one_put : (old texts now new : List (List ℕ)) (text : List ℕ) → new ≡ in_byte_order (text ∷ now) → now ≡ in_byte_order (old ++ texts) → new ≡ in_byte_order (old ++ (texts ++ text ∷ []))
one_put old texts now new text put is =
    put ∙ ap (λ l. in_byte_order (text ∷ l)) is ∙ order_push (old ++ texts) text ∙ ap in_byte_order (append_assoc old texts (text ∷ []))

-- which texts are left does not depend on the order of the others
pub without_order : (texts others : List (List ℕ)) → without texts (in_byte_order others) ≡ without texts others
without_order texts others = λ i. filter (λ text. not (among_order others text i)) texts

shown_push : {A : Type 0} (shows : A → List ℕ) (xs : List A) (x : A) → map shows (xs ++ x ∷ []) ≡ map shows xs ++ shows x ∷ []
shown_push shows [] x = refl
shown_push shows (y ∷ xs) x = ap (λ l. shows y ∷ l) (shown_push shows xs x)

-- one text more that is taken out, of those that an iterator shows
pub one_removed : {A : Type 0} (shows : A → List ℕ) (old now new : List (List ℕ)) (xs : List A) (x : A) → new ≡ without now (shows x ∷ []) → now ≡ without old (map shows xs) → new ≡ without old (map shows (xs ++ x ∷ []))
one_removed shows old now new xs x removed is =
    removed ∙ ap (λ texts. without texts (shows x ∷ [])) is ∙ without_more old (map shows xs) (shows x) ∙ ap (without old) (sym (shown_push shows xs x))
