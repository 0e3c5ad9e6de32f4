-- Times that replace earlier ones.
use Rattle.std.proofs.Common.{◌≡◌, ℕ, ◌||◌, cond, List, ◌++◌, Option, Some, None, is_some, refl, sym, ap, ◌∙◌}
use Rattle.std.specs.FinMap as fin
use Rattle.std.specs.FinMap.{FinMap, contains_key-keys}
use Rattle.std.specs.Option.{unwrap_or}
use Rattle.std.specs.Ordering.{eq_by_cmp}
use Rattle.std.proofs.lemmas.List.Folds.{list_any-append}
use Rattle.outcome_fold.specs.Order.{text_cmp}
use Rattle.outcome_fold.proofs.TableLemmas.{get-table}
use Rattle.outcome_fold.proofs.OrderLemmas.{texts_total, exact_texts}
use Rattle.run_ledger.specs.Ledger.{replaced}
use Rattle.run_ledger.proofs.StrictLemmas.{or_else}

latest : (a b : Option ℕ) → or_else a b ≡ cond (is_some b || is_some a) (Some (unwrap_or a (unwrap_or b 0))) None
latest None None = refl
latest None (Some y) = refl
latest (Some x) None = refl
latest (Some x) (Some y) = refl

get-replaced : (earlier later : FinMap text_cmp ℕ) (q : List ℕ) → fin.get (replaced earlier later) q ≡ cond (is_some (fin.get earlier q) || is_some (fin.get later q)) (Some (unwrap_or (fin.get later q) (unwrap_or (fin.get earlier q) 0))) None
get-replaced earlier later q =
    get-table texts_total exact_texts (λ id. unwrap_or (fin.get later id) (unwrap_or (fin.get earlier id) 0)) (fin.keys earlier ++ fin.keys later) q
    ∙ ap (λ b. cond b (Some (unwrap_or (fin.get later q) (unwrap_or (fin.get earlier q) 0))) None)
    (list_any-append (eq_by_cmp text_cmp q) (fin.keys earlier) (fin.keys later) ∙ (λ i. sym (contains_key-keys earlier q) i || sym (contains_key-keys later q) i))

-- each id has its later time, where it has one, and else its earlier one
pub latest_is : (earlier later : FinMap text_cmp ℕ) (q : List ℕ) → or_else (fin.get later q) (fin.get earlier q) ≡ fin.get (replaced earlier later) q
latest_is earlier later q = latest (fin.get later q) (fin.get earlier q) ∙ sym (get-replaced earlier later q)
