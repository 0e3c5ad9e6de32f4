use Rattle.std.proofs.Common.{rules}
use Rattle.outcome_fold.proofs.CountLemmas.{one_counted}
use Rattle.outcome_fold.proofs.rows.with.Goals as goal

pub returns-clause-counted : goal.returns-clause-counted
returns-clause-counted c = one_counted c.args.counts _ c.args.row.now (search rules)
