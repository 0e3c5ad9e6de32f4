use Rattle.std.proofs.Common.{[], ◌∷◌, ◌++◌, take, ap, sym, ◌∙◌, append_assoc}
use Rattle.std.proofs.lemmas.List.{take_more}
use Rattle.tap_bridge.specs.Texts.{lines_in}
use Rattle.filter_cli.proofs.TapRowLemmas.{text_more}
use Rattle.filter_cli.proofs.subunit_to_tap.put_rows.Goals as goal

pub loop-row-preserved : goal.loop-row-preserved
loop-row-preserved c =
    let inv = c.loop-row.invariant in
    let done = take c.loop-row.row-index c.args.rows.now in
    let row = c.row-item.result in
    let next = take_more c.args.rows.now c.loop-row.row-index row c.loop-row-test.true ∙ (λ j. done ++ sym c.row-item.is j ∷ []) in
    record {
      text = λ before has. text_more before done _ row _ _ _ next (inv.text before has) (c.in_ok-row.ensures.text (before ++ done) (inv.written before has));
      written = λ before has. c.in_ok-row.ensures.written (before ++ done) (inv.written before has) ∙ ap lines_in (append_assoc before done (row ∷ []) ∙ ap (λ l. before ++ l) (sym next));
    }
