use Rattle.std.proofs.Common.{◌≡◌, List, ◌++◌, ap, ◌∙◌}
use Rattle.outcome_fold.specs.Rows.{completed_rows, open_rows}
use Rattle.outcome_fold.specs.declared.row.Row.{Row}
use Rattle.live_text.specs.Totals.{sum_of}
use Rattle.filter_cli.specs.Events.{events_among}
use Rattle.filter_cli.specs.Tracing.{status_of_counts}
use Rattle.filter_cli.proofs.TraceLemmas.{trace_end}
use Rattle.filter_cli.proofs.live_trace.TraceFilterNoteFilter.close.Goals as goal

pub returns-clause-text : goal.returns-clause-text
returns-clause-text c notes has =
    let seen = events_among notes in
    let kind = c.args.self.trace.kind in
    let before = completed_rows seen in
    let rows = c.deref.result.now in
    let written = c.in_ok-rows-2.ensures.written kind before has.1 in
    trace_end kind before rows (open_rows seen) c.args.self.trace.totals c.args.text.now.items c.rows.new.text.items c.end.new.text.items c.put_totals.new.text.items
    (c.deref.ensures.value ∙ c.in_ok-rows.ensures seen has.0) (c.in_ok-rows-2.ensures.text kind before has.1) (c.in_ok-end.ensures kind (before ++ rows) written) (c.in_ok-put_totals.ensures kind (before ++ rows) written)

pub returns-clause-status : goal.returns-clause-status
returns-clause-status c notes has =
    let seen = events_among notes in
    let kind = c.args.self.trace.kind in
    let before = completed_rows seen in
    let rows = c.deref.result.now in
    let written = c.in_ok-rows-2.ensures.written kind before has.1 in
    c.status_of.ensures
    ∙ ap status_of_counts (c.counts.ensures kind (before ++ rows) written ∙ ap (λ (r : List Row). sum_of (before ++ r)) (c.deref.ensures.value ∙ c.in_ok-rows.ensures seen has.0))
