use Rattle.std.proofs.Common.{◌∙◌, sym}
use Rattle.last_failures.proofs.FindLemmas.{passed_by, kept_by, still_missing, both_ok, ok_then}
use Rattle.last_failures.proofs.search_state.SearchState.take_row.Goals as goal

pub returns-then-counts-clause-looks : goal.returns-then-counts-clause-looks
returns-then-counts-clause-looks c = both_ok c.keep.result c.keep.ensures.missing c.keep.ensures.found (λ missing found ids later packets held before. kept_by ids later c.args.row.now _ packets _ _ _ _ (sym c.counts.ensures ∙ c.if-counts.true) missing found held before)

pub returns-then-counts-clause-fewer : goal.returns-then-counts-clause-fewer
returns-then-counts-clause-fewer c = ok_then c.keep.result c.keep.ensures.missing (λ missing id there. still_missing _ _ c.args.row.now.id id missing there)

pub returns-clause-looks : goal.returns-clause-looks
returns-clause-looks c = λ ids later packets held before. passed_by ids later _ _ _ (sym c.counts.ensures ∙ c.if-counts.false) before
