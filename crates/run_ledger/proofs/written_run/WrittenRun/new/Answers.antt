use Rattle.run_ledger.proofs.WrittenLemmas.{written_none}
use Rattle.run_ledger.proofs.written_run.WrittenRun.new.Goals as goal

pub returns-clause-written : goal.returns-clause-written
returns-clause-written c = written_none c.args.filter_tags _ c.new.ensures
