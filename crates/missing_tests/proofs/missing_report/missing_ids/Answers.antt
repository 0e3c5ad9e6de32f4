use Rattle.std.proofs.Common.{◌≡◌, ◌∙◌, ◌++◌, ap, subst, IfOk, List, ℕ}
use Rattle.outcome_fold.specs.Order.{in_byte_order, without}
use Rattle.missing_tests.proofs.MissingLemmas.{left_missing}
use Rattle.missing_tests.proofs.missing_report.missing_ids.Goals as goal

pub returns : goal.returns
returns c = λ tags ids rows asked sums.
    subst (λ (t : List (List ℕ)). IfOk c.into_ids.result (λ m. m ≡ t))
    (left_missing rows ids c.args.asked c.put_all.new.self c.change_failing.new.failed c.in_ok-failing.failing c.remove_all.new.self asked
    (c.in_ok-put_all.ensures ∙ ap (λ l. in_byte_order (l ++ c.args.asked)) c.new-left.ensures)
    (c.in_ok-change_failing.ensures tags rows sums)
    (c.in_ok-failing.ensures tags rows sums)
    (c.remove_all.ensures ∙ ap (without c.change_failing.new.failed) c.list.ensures))
    c.into_ids.ensures
