use Rattle.std.proofs.Common.{◌∙◌, ◌++◌, sym, ap, arith}
use Rattle.outcome_fold.specs.Order.{in_byte_order}
use Rattle.outcome_fold.proofs.SetLemmas.{order_of_none}
use Rattle.missing_tests.proofs.MissingLemmas.{asked_more}
use Rattle.missing_tests.proofs.missing_report.asked_once.Goals as goal

pub loop-some-init : goal.loop-some-init
loop-some-init c = c.new-ids.ensures ∙ sym order_of_none

pub loop-some-preserved : goal.loop-some-preserved
loop-some-preserved c = asked_more c.args.lists.now c.loop-some.some-index c.some-item.result c.loop-some.ids c.insert_all.new.self (omega (arith, c.loop-some-test.true)) c.some-item.is c.loop-some.invariant (c.in_ok-insert_all.ensures ∙ ap (λ l. in_byte_order (c.loop-some.ids ++ l)) c.list.ensures)
