use Rattle.std.proofs.Common.{◌∙◌}
use Rattle.run_ledger.proofs.FoldLemmas.{read_same, few_held}
use Rattle.run_ledger.proofs.run_reader.RunReader.settle.Goals as goal

pub returns-clause-read : goal.returns-clause-read
returns-clause-read c = λ bytes read. read_same c.fold_notes.result bytes _ _ c.args.self.now.open read c.fold_notes.ensures.folded

pub returns-clause-held : goal.returns-clause-held
returns-clause-held c = few_held c.fold_notes.result _ (c.fold_notes.ensures.ended ∙ c.args.self.now.open) c.fold_notes.ensures.spent
