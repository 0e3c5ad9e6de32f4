use Rattle.std.proofs.Common.{ℕ, List, OnOk, subst}
use Rattle.suite_plan.specs.Tails.{IsTailOf}
use Rattle.suite_plan.proofs.TailLemmas.{name_line_added}
use Rattle.suite_plan.proofs.tail.Tail.add_name_line.Goals as goal

pub returns : goal.returns
returns c = λ text has.
    let begun = c.in_ok-add.ensures _ (c.in_ok-end_line.ensures text has) in
    subst (λ (l : List ℕ). OnOk c.add-3.result (IsTailOf l c.add-3.new.self)) (name_line_added text c.args.name.now) (c.add-3.ensures _ (c.in_ok-add-2.ensures _ begun))
