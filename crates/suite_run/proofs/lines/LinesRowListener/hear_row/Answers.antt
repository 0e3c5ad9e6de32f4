use Rattle.std.proofs.Common.{refl, sym, ◌∙◌}
use Rattle.suite_run.proofs.EarLemmas.{gathered_shown}
use Rattle.suite_run.proofs.lines.LinesRowListener.hear_row.Goals as goal

pub returns : goal.returns
returns c = record {
  hears = λ begun rows told. gathered_shown begun c.args.self.now _ rows c.args.row.now (sym c.is_run.ensures ∙ c.if-not-is_run.false) refl c.in_ok-live_line.ensures.ok c.next_column-self.ensures told;
}
