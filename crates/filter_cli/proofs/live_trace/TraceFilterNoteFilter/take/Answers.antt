use Rattle.std.proofs.Common.{◌++◌, length, subst, sym, ap, ◌∙◌}
use Rattle.std.specs.List.{filter}
use Rattle.std.specs.Option.{option_to_list}
use Rattle.outcome_fold.specs.Answers.{is_run}
use Rattle.outcome_fold.specs.Rows.{completed_rows}
use Rattle.outcome_fold.proofs.OutcomeLemmas.{completed_push}
use Rattle.live_text.specs.Live.{live_rows}
use Rattle.live_text.specs.Written.{HasWritten}
use Rattle.filter_cli.specs.Events.{events_among}
use Rattle.filter_cli.proofs.EventLemmas.{event_more}
use Rattle.filter_cli.proofs.live_trace.TraceFilterNoteFilter.take.Goals as goal

pub returns-clause-ok : goal.returns-clause-ok
returns-clause-ok c event spells notes has =
    let seen = events_among notes in
    let kind = c.args.self.now.trace.kind in
    let row = c.in_ok-row.ensures.row seen event spells has.0 in
    rw (event_more notes event) (
      c.in_ok-row.ensures.ok seen event spells has.0,
      subst (HasWritten kind _) (ap (λ r. completed_rows seen ++ option_to_list r) row ∙ sym (completed_push seen event)) (c.in_ok-put_row.ensures.written kind (completed_rows seen) has.1),
    )

pub returns-clause-text : goal.returns-clause-text
returns-clause-text c event spells notes has =
    let seen = events_among notes in
    let kind = c.args.self.now.trace.kind in
    c.in_ok-put_row.ensures.text kind (completed_rows seen) has.1 ∙ ap (λ r. c.args.text.now.items ++ live_rows kind (length (filter is_run (completed_rows seen))) (option_to_list r)) (c.in_ok-row.ensures.row seen event spells has.0)
