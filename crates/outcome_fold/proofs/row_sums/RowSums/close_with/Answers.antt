use Rattle.std.proofs.Common.{◌∙◌, ◌++◌, ap, sym, refl}
use Rattle.outcome_fold.specs.Rows.{completed_rows, open_rows}
use Rattle.outcome_fold.proofs.SummedLemmas.{same_sums}
use Rattle.outcome_fold.proofs.SummingLemmas.{heard_open}
use Rattle.outcome_fold.proofs.row_sums.RowSums.close_with.Goals as goal

pub returns-clause-summed : goal.returns-clause-summed
returns-clause-summed g c = λ filter_tags seen has.
    c.in_order.ensures filter_tags (completed_rows seen ++ open_rows seen)
    (same_sums _ _ _ _ c.take_all.new.self has.tags (ap (λ rows. completed_rows seen ++ rows) (c.in_ok-open.ensures seen has.started))
    (c.in_ok-take_all.ensures (completed_rows seen) (same_sums _ _ _ _ c.args.self.summary (sym has.tags) refl has.sums)))

pub returns-clause-heard : goal.returns-clause-heard
returns-clause-heard g c = λ filter_tags seen begun rows has heard.
    heard_open (g.L.RowListener.heard begun c.hear_rows.new.listener) rows c.deref.result.now (open_rows seen) c.in_order.result
    (c.deref.ensures.value ∙ c.in_ok-open.ensures seen has.started) (c.in_ok-hear_rows.ensures begun rows heard)
