use Rattle.run_ledger.proofs.WrittenLemmas.{written_rows}
use Rattle.run_ledger.proofs.written_run.WrittenRun.close_with.Goals as goal

pub returns-clause-sums : goal.returns-clause-sums
returns-clause-sums g c = λ filter_tags run w. written_rows filter_tags _ run _ w (c.close_with.ensures.summed filter_tags)
