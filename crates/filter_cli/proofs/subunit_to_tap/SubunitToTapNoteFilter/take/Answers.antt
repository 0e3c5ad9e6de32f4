use Rattle.std.proofs.Common.{◌++◌, sym, ap, ◌∙◌}
use Rattle.std.specs.List.{flat_map}
use Rattle.std.specs.Option.{option_to_list}
use Rattle.outcome_fold.specs.Rows.{completed_rows}
use Rattle.outcome_fold.proofs.OutcomeLemmas.{completed_push}
use Rattle.tap_bridge.specs.Texts.{lines_in, tap_text_at}
use Rattle.filter_cli.specs.Events.{events_among}
use Rattle.filter_cli.proofs.EventLemmas.{event_more, failed_more}
use Rattle.filter_cli.proofs.subunit_to_tap.SubunitToTapNoteFilter.take.Goals as goal

pub returns-clause-ok : goal.returns-clause-ok
returns-clause-ok c event spells notes has =
    let seen = events_among notes in
    let row = c.in_ok-row.ensures.row seen event spells has.0 in
    rw (event_more notes event) (
      c.in_ok-row.ensures.ok seen event spells has.0,
      c.in_ok-put_row.ensures.written (completed_rows seen) has.1 ∙ ap (λ r. lines_in (completed_rows seen ++ option_to_list r)) row ∙ ap lines_in (sym (completed_push seen event)),
      c.failed_after-self.ensures ∙ failed_more seen event c.in_ok-row.row c.args.self.now.failed has.2 row,
    )

pub returns-clause-text : goal.returns-clause-text
returns-clause-text c event spells notes has =
    let seen = events_among notes in
    c.in_ok-put_row.ensures.text (completed_rows seen) has.1 ∙ ap (λ r. c.args.text.now.items ++ flat_map (tap_text_at (completed_rows seen)) (option_to_list r)) (c.in_ok-row.ensures.row seen event spells has.0)
