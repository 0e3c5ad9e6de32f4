use Rattle.std.proofs.Common.{[]}
use Rattle.suite_run.proofs.EarLemmas.{both_ok, gathered_none, gathers_more}
use Rattle.suite_run.proofs.lines.Hearing.hear.Goals as goal

pub returns : goal.returns
returns c filter_tags kind said seen events are gathers =
    both_ok c.hear_with.result (gathers_more filter_tags kind said c.args.self.now _ seen events gathers)
    (c.hear_with.ensures.summed filter_tags seen events are gathers.folded)
    (c.hear_with.ensures.heard filter_tags seen events c.args.self.now.lines [] are gathers.folded (gathered_none c.args.self.now.lines))
