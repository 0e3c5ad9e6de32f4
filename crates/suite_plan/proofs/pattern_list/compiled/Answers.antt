use Rattle.std.proofs.Common.{◌<◌, ℕ, List, length, Err, subst, ap, ◌∙◌}
use Rattle.suite_plan.proofs.pattern_list.compiled.Goals as goal

pub bad_line-requires-clause-there : goal.bad_line-requires-clause-there
bad_line-requires-clause-there c =
    let bad = c.new.ensures.bad c.in-Err-BadPattern.index (c.in-Err-BadPattern.is ∙ ap Err c.in-Err-BadPattern.field-0-is) in
    subst (λ (l : List (List ℕ)). c.in-Err-BadPattern.index < length l) c.list.ensures bad.in_range
