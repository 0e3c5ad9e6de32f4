use Rattle.std.proofs.Common.{◌≡◌, ◌<◌, length, rules}
use Rattle.command_steps.proofs.SumLemmas.{none_fails, some_fails}
use Rattle.command_steps.proofs.run_report.verdict_of_summary.Goals as goal

pub returns-then-is_empty : goal.returns-then-is_empty
returns-then-is_empty c =
    let none : length c.failing.result.now ≡ 0 = search rules in
    λ filter_tags rows sums. none_fails rows _ (c.failing.ensures filter_tags rows sums) none

pub returns-else-is_empty : goal.returns-else-is_empty
returns-else-is_empty c =
    let some : 0 < length c.failing.result.now = search rules in
    λ filter_tags rows sums. some_fails rows _ (c.failing.ensures filter_tags rows sums) some
