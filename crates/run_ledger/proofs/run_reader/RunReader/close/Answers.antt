use Rattle.run_ledger.proofs.FoldLemmas.{rows_at_end}
use Rattle.run_ledger.proofs.run_reader.RunReader.close.Goals as goal

pub returns : goal.returns
returns c = λ bytes read. rows_at_end _ bytes _ _ _ _ read c.finish.ensures c.in_ok-fold_notes.ensures.folded c.in_ok-fold_notes.ensures.spent c.close.ensures
