use Rattle.run_ledger.proofs.UniqueLemmas.{one_list, one_each}
use Rattle.run_ledger.proofs.ExistLemmas.{some_rows}
use Rattle.run_ledger.proofs.laws.runs_have_one_list_of_rows.Goals as goal

pub returns-clause-run : goal.returns-clause-run
returns-clause-run c bytes rows others are has also = one_list bytes rows others are has also

pub returns-clause-some : goal.returns-clause-some
returns-clause-some c = some_rows

pub returns-clause-runs : goal.returns-clause-runs
returns-clause-runs c runs entries others bytes are also = one_each runs entries others bytes are also
