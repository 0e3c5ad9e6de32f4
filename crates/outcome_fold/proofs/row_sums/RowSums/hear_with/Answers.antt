use Rattle.std.proofs.Common.{◌∙◌, sym}
use Rattle.outcome_fold.specs.Rows.{completed_row}
use Rattle.outcome_fold.proofs.SummingLemmas.{summed_more, summed_same, heard_some, heard_none}
use Rattle.outcome_fold.proofs.row_sums.RowSums.hear_with.Goals as goal

pub returns-in_ok-hear_row-in-Some-clause-summed : goal.returns-in_ok-hear_row-in-Some-clause-summed
returns-in_ok-hear_row-in-Some-clause-summed g c = λ filter_tags seen e spells has.
    summed_more filter_tags seen e c.args.self.now c.hear.new.self has (c.in_ok-row.ensures.ok seen e spells has.started) c.in-Some.row c.take.new.self c.take.result
    (sym c.in-Some.is ∙ c.in_ok-row.ensures.row seen e spells has.started) c.take.ensures

pub returns-in-None-clause-summed : goal.returns-in-None-clause-summed
returns-in-None-clause-summed g c = λ filter_tags seen e spells has.
    summed_same filter_tags seen e c.args.self.now c.hear.new.self has (c.in_ok-row.ensures.ok seen e spells has.started)
    (sym c.in-None.is ∙ c.in_ok-row.ensures.row seen e spells has.started)

pub returns-in_ok-hear_row-in-Some-clause-heard : goal.returns-in_ok-hear_row-in-Some-clause-heard
returns-in_ok-hear_row-in-Some-clause-heard g c = λ filter_tags seen e begun rows spells has heard.
    heard_some (g.L.RowListener.heard begun c.hear_row.new.self) rows c.in-Some.row (completed_row seen e) c.take.result
    (sym c.in-Some.is ∙ c.in_ok-row.ensures.row seen e spells has.started) (c.in_ok-hear_row-in-Some.ensures.hears begun rows heard)

pub returns-in-None-clause-heard : goal.returns-in-None-clause-heard
returns-in-None-clause-heard g c = λ filter_tags seen e begun rows spells has heard.
    heard_none (g.L.RowListener.heard begun c.args.listener.now) rows (completed_row seen e)
    (sym c.in-None.is ∙ c.in_ok-row.ensures.row seen e spells has.started) heard
