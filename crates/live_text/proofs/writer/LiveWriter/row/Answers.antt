use Rattle.std.proofs.Common.{◌++◌, ◌%◌, length, ap, sym, ◌∙◌, append-nil}
use Rattle.std.specs.List.{filter}
use Rattle.outcome_fold.specs.Answers.{is_run}
use Rattle.live_text.specs.Live.{live_line}
use Rattle.live_text.proofs.WriterLemmas.{row_hidden, row_shown, count_hidden, count_shown}
use Rattle.live_text.proofs.writer.LiveWriter.row.Goals as goal

pub returns-then-not-is_run-clause-text : goal.returns-then-not-is_run-clause-text
returns-then-not-is_run-clause-text c kind rows has =
    sym (append-nil c.args.text.now.items)
    ∙ ap (λ l. c.args.text.now.items ++ l) (sym (row_hidden kind (length (filter is_run rows)) c.args.row.now (sym c.is_run.ensures ∙ c.if-not-is_run.true)))

pub returns-then-not-is_run-clause-written : goal.returns-then-not-is_run-clause-written
returns-then-not-is_run-clause-written c kind rows has = record {
  kind_is = has.kind_is;
  column = has.column ∙ ap (λ n. n % 70) (count_hidden rows c.args.row.now (sym c.is_run.ensures ∙ c.if-not-is_run.true));
  totals = c.in_ok-add.ensures rows has.totals;
}

pub returns-clause-text : goal.returns-clause-text
returns-clause-text c kind rows has =
    c.in_ok-live_line.ensures.ok
    ∙ (λ i. c.args.text.now.items ++ live_line (has.kind_is i) (has.column i) c.args.row.now)
    ∙ ap (λ l. c.args.text.now.items ++ l) (sym (row_shown kind (length (filter is_run rows)) c.args.row.now (sym c.is_run.ensures ∙ c.if-not-is_run.false)))

pub returns-clause-written : goal.returns-clause-written
returns-clause-written c kind rows has = record {
  kind_is = has.kind_is;
  column = c.next_column-self.ensures (length (filter is_run rows)) has.column ∙ ap (λ n. n % 70) (count_shown rows c.args.row.now (sym c.is_run.ensures ∙ c.if-not-is_run.false));
  totals = c.in_ok-add.ensures rows has.totals;
}
