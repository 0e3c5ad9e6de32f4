use Rattle.std.proofs.Common.{refl}
use Rattle.outcome_fold.proofs.row_sums.RowSums.new.Goals as goal

pub returns : goal.returns
returns c = record { tags = refl; started = c.new.ensures; sums = c.new-2.ensures c.args.filter_tags }
