-- The rows that are summed up, event by event.
use Rattle.std.proofs.Common.{◌≡◌, ℕ, List, [], ◌∷◌, ◌++◌, Option, Some, None, refl, sym, subst}
use Rattle.std.specs.Option.{option_to_list}
use Rattle.std.specs.Prelude.{Result, Ok, Err, OnOk}
use Rattle.packet_codec.specs.declared.event.Event.{Event}
use Rattle.outcome_fold.specs.declared.row.Row.{Row}
use Rattle.outcome_fold.specs.declared.fold.Fold.{Fold}
use Rattle.outcome_fold.specs.declared.summary.Summary.{Summary}
use Rattle.outcome_fold.specs.declared.row_sums.RowSums.{RowSums}
use Rattle.outcome_fold.specs.Folded.{HasSeen}
use Rattle.outcome_fold.specs.Rows.{completed_row, completed_rows}
use Rattle.outcome_fold.specs.Summed.{Sums, HasSummed}
use Rattle.outcome_fold.proofs.FoldLemmas.{append_none}
use Rattle.outcome_fold.proofs.OutcomeLemmas.{completed_none, completed_some}
use Rattle.outcome_fold.proofs.SummedLemmas.{same_sums}

module _ (filter_tags : List (List ℕ)) (seen : List Event) (e : Event) (old : RowSums) (fold : Fold) (has : HasSummed filter_tags old seen) (started : HasSeen fold (seen ++ e ∷ [])) where
  abbrev next : Summary → RowSums
  next summary = record { alloc = old.alloc; filter_tags = old.filter_tags; fold = fold; summary = summary }

  -- an event that completes no row
  pub summed_same : None ≡ completed_row seen e → HasSummed filter_tags (next old.summary) (seen ++ e ∷ [])
  summed_same none = record {
    tags = has.tags;
    started = started;
    sums = same_sums _ _ _ _ old.summary refl (completed_none seen e _ refl none) has.sums;
  }

  -- and one that completes a row
  pub summed_more : {E : Type 0} (row : Row) (summary : Summary) (result : Result (Unit {0}) E) → Some row ≡ completed_row seen e → ((rows : List Row) → Sums old.filter_tags rows old.summary → OnOk result (Sums old.filter_tags (rows ++ row ∷ []) summary)) → OnOk result (HasSummed filter_tags (next summary) (seen ++ e ∷ []))
  summed_more row summary (Ok done) some takes = record {
    tags = has.tags;
    started = started;
    sums = same_sums _ _ _ _ summary has.tags (completed_some seen e _ row refl some) (takes (completed_rows seen) (same_sums _ _ _ _ old.summary (sym has.tags) refl has.sums));
  }
  summed_more row summary (Err fault) some takes = tt

-- what holds of the rows behind which one is put holds where that one is completed
pub heard_some : {E : Type 0} (P : List Row → Type 0) (rows : List Row) (row : Row) (found : Option Row) (result : Result (Unit {0}) E) → Some row ≡ found → P (rows ++ row ∷ []) → OnOk result (P (rows ++ option_to_list found))
heard_some P rows row found (Ok done) is heard = subst (λ o. P (rows ++ option_to_list o)) is heard
heard_some P rows row found (Err fault) is heard = tt

-- and what holds of rows where none is completed
pub heard_none : (P : List Row → Type 0) (rows : List Row) (found : Option Row) → None ≡ found → P rows → P (rows ++ option_to_list found)
heard_none P rows found is heard = subst (λ o. P (rows ++ option_to_list o)) is (subst P (sym (append_none rows)) heard)

-- what holds of the rows of a list holds of it under its other name
pub heard_open : {E : Type 0} (P : List Row → Type 0) (rows given others : List Row) (result : Result Summary E) → given ≡ others → P (rows ++ given) → OnOk result (P (rows ++ others))
heard_open P rows given others (Ok summary) is heard = subst (λ o. P (rows ++ o)) is heard
heard_open P rows given others (Err fault) is heard = tt
