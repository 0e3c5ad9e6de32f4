use Rattle.std.proofs.Common.{◌≡◌, ◌∙◌, ℕ, List, ap, subst, IfOk, ◌&&◌, not}
use Rattle.std.specs.List.{filter}
use Rattle.outcome_fold.specs.Order.{among, in_byte_order}
use Rattle.outcome_fold.specs.Answers.{ids_of, is_run, has_failure, passed_of}
use Rattle.outcome_fold.proofs.AnswerLemmas.{among_failing}
use Rattle.outcome_fold.proofs.rows.passed_list.Goals as goal

pub returns : goal.returns
returns c =
    let rows = c.args.rows.now in
    let fails : (id : List ℕ) → among c.in_ok-failing.failing id ≡ has_failure rows id = λ id. ap (λ ids. among ids id) c.in_ok-failing.ensures ∙ among_failing rows id in
    let all : c.in_ok-passed_set.field-0 ≡ passed_of rows = c.in_ok-passed_set.ensures ∙ (λ i. in_byte_order (ids_of (filter (λ row. is_run row && not (fails row.id i)) rows))) in
    subst (λ (l : List (List ℕ)). IfOk c.into_ids.result (λ ids. ids ≡ l)) all c.into_ids.ensures
