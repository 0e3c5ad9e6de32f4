use Rattle.std.proofs.Common.{◌∙◌, sym}
use Rattle.outcome_fold.proofs.SummedLemmas.{counted_more}
use Rattle.outcome_fold.proofs.rows.count_with.Goals as goal

pub returns : goal.returns
returns c = λ rows is. counted_more c.args.filter_tags.now rows c.args.row.now c.args.counts c.with.result is (sym c.is_counted.ensures ∙ c.if-not-is_counted.false) c.with.ensures.counted
