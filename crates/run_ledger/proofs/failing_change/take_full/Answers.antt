use Rattle.run_ledger.proofs.TakingLemmas.{full_set}
use Rattle.run_ledger.proofs.failing_change.take_full.Goals as goal

pub returns : goal.returns
returns c = full_set c.args.rows.now _ _ _ c.new-full.ensures c.in_ok-failing_ids.ensures c.in_ok-put_all.ensures
