use Rattle.std.proofs.Common.{◌≡◌, ℕ, List, OnOk, subst}
use Rattle.outcome_fold.specs.Lines.{line_end}
use Rattle.suite_plan.specs.Tails.{IsTailOf}
use Rattle.suite_plan.proofs.TailLemmas.{line_ended}
use Rattle.suite_plan.proofs.tail.Tail.end_line.Goals as goal

pub returns : goal.returns
returns c =
    let bytes = c.args.self.now.bytes.items in
    let end = c.line_end-end.result.now in
    let ended : end ≡ line_end bytes = rw (c.deref.ensures.value) at c.line_end-end.ensures in
    λ text has. subst (λ (l : List ℕ). OnOk c.add.result (IsTailOf l c.add.new.self)) (line_ended text end c.args.self.now has ended) (c.add.ensures text has)
