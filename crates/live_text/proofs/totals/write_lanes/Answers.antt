use Rattle.std.proofs.Common.{◌++◌, ap, sym, ◌∙◌, append-nil}
use Rattle.live_text.specs.Totals.{lines_from}
use Rattle.live_text.proofs.WriterLemmas.{drop_past}
use Rattle.live_text.proofs.totals.write_lanes.Goals as goal

pub returns : goal.returns
returns c =
    sym (append-nil c.loop-sum.text.items)
    ∙ ap (λ l. c.loop-sum.text.items ++ lines_from c.loop-sum.lane l) (sym (drop_past c.args.lanes.now c.loop-sum.sum-index c.loop-sum-test.false))
    ∙ c.loop-sum.invariant.text
