use Rattle.std.proofs.Common.{◌++◌, ◌∙◌, ap}
use Rattle.missing_tests.specs.Missing.{missing_text}
use Rattle.outcome_fold.specs.Order.{in_byte_order}
use Rattle.testr_commands.proofs.missing_report.left_of_load.Goals as goal

pub returns : goal.returns
returns c = λ tags rows sums.
    let told = c.in_ok-fails.ensures tags c.args.expected.now rows (c.in_ok-ids.ensures ∙ ap in_byte_order c.list.ensures) sums in
    (told.0 ∙ ap (λ l. l ++ missing_text c.args.expected.now rows) c.new-text.ensures.items, told.1)
