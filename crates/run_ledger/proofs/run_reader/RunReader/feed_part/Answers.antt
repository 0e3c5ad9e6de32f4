use Rattle.std.proofs.Common.{◌∙◌, ap}
use Rattle.stream_reader.proofs.FrontLemmas.{are_from_fits}
use Rattle.run_ledger.proofs.FoldLemmas.{read_more, few_held}
use Rattle.run_ledger.proofs.run_reader.RunReader.feed_part.Goals as goal

pub returns-clause-read : goal.returns-clause-read
returns-clause-read c = λ bytes read. read_more _ bytes _ _ _ _ (are_from_fits _ c.type_inv.part) read c.feed.ensures c.fold_notes.ensures.folded

pub returns-clause-held : goal.returns-clause-held
returns-clause-held c = few_held c.fold_notes.result _ (c.fold_notes.ensures.ended ∙ ap (λ h. h.ended) c.feed.ensures) c.fold_notes.ensures.spent
