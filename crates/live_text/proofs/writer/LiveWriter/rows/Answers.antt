use Rattle.std.proofs.Common.{[], ◌∷◌, ◌++◌, take, length, ap, sym, subst, ◌∙◌, append_assoc}
use Rattle.std.specs.List.{filter}
use Rattle.std.proofs.lemmas.List.{take_more}
use Rattle.outcome_fold.specs.Answers.{is_run}
use Rattle.live_text.specs.Live.{live_rows}
use Rattle.live_text.specs.Written.{HasWritten}
use Rattle.live_text.proofs.WriterLemmas.{rows_push, take_past}
use Rattle.live_text.proofs.writer.LiveWriter.rows.Goals as goal

pub loop-row-preserved : goal.loop-row-preserved
loop-row-preserved c =
    let inv = c.loop-row.invariant in
    let done = take c.loop-row.row-index c.args.rows.now in
    let row = c.row-item.result in
    let next = take_more c.args.rows.now c.loop-row.row-index row c.loop-row-test.true ∙ (λ j. done ++ sym c.row-item.is j ∷ []) in
    record {
      text = λ kind before has.
          let n = length (filter is_run before) in
          c.in_ok-row.ensures.text kind (before ++ done) (inv.written kind before has)
          ∙ ap (λ l. l ++ live_rows kind (length (filter is_run (before ++ done))) (row ∷ [])) (inv.text kind before has)
          ∙ append_assoc c.args.text.now.items (live_rows kind n done) (live_rows kind (length (filter is_run (before ++ done))) (row ∷ []))
          ∙ ap (λ l. c.args.text.now.items ++ l) (sym (rows_push kind before done row) ∙ ap (live_rows kind n) (sym next));
      written = λ kind before has.
          subst (HasWritten kind c.row.new.self) (append_assoc before done (row ∷ []) ∙ ap (λ l. before ++ l) (sym next)) (c.in_ok-row.ensures.written kind (before ++ done) (inv.written kind before has));
    }

pub returns-clause-text : goal.returns-clause-text
returns-clause-text c kind before has = c.loop-row.invariant.text kind before has ∙ ap (λ l. c.args.text.now.items ++ live_rows kind (length (filter is_run before)) l) (take_past c.args.rows.now c.loop-row.row-index c.loop-row-test.false)

pub returns-clause-written : goal.returns-clause-written
returns-clause-written c kind before has = subst (λ l. HasWritten kind c.loop-row.self (before ++ l)) (take_past c.args.rows.now c.loop-row.row-index c.loop-row-test.false) (c.loop-row.invariant.written kind before has)
