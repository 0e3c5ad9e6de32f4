use Rattle.std.proofs.Common.{◌∷◌, [], ◌++◌, take, ap, sym, subst, ◌∙◌, append_assoc}
use Rattle.std.proofs.lemmas.List.{take_more}
use Rattle.outcome_fold.proofs.FoldLemmas.{append_none}
use Rattle.outcome_fold.proofs.row_listener.hear_rows.Goals as goal

pub loop-row-init : goal.loop-row-init
loop-row-init g c = λ begun before heard. subst (λ rows. g.L.RowListener.heard begun c.args.listener.now rows) (sym (append_none before)) heard

pub loop-row-preserved : goal.loop-row-preserved
loop-row-preserved g c = λ begun before heard.
    let done = take c.loop-row.row-index c.args.rows.now in
    let row = c.row-item.result in
    let next = take_more c.args.rows.now c.loop-row.row-index row c.loop-row-test.true ∙ (λ j. done ++ sym c.row-item.is j ∷ []) in
    subst (λ rows. g.L.RowListener.heard begun c.hear_row.new.self rows) (append_assoc before done (row ∷ []) ∙ ap (λ l. before ++ l) (sym next))
    (c.in_ok-hear_row.ensures.hears begun (before ++ done) (c.loop-row.invariant begun before heard))
