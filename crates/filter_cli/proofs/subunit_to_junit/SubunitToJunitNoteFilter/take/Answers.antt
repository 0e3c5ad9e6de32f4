use Rattle.std.proofs.Common.{◌++◌, subst, sym, ap, ◌∙◌}
use Rattle.std.specs.Option.{option_to_list}
use Rattle.outcome_fold.specs.Rows.{completed_rows}
use Rattle.outcome_fold.proofs.OutcomeLemmas.{completed_push}
use Rattle.filter_cli.specs.JunitCases.{HasCases}
use Rattle.filter_cli.specs.Events.{events_among}
use Rattle.filter_cli.proofs.EventLemmas.{event_more, failed_more}
use Rattle.filter_cli.proofs.subunit_to_junit.SubunitToJunitNoteFilter.take.Goals as goal

pub returns-clause-ok : goal.returns-clause-ok
returns-clause-ok c event spells notes has =
    let seen = events_among notes in
    let row = c.in_ok-row.ensures.row seen event spells has.0 in
    rw (event_more notes event) (
      c.in_ok-row.ensures.ok seen event spells has.0,
      (
        subst (HasCases c.put_row.new.cases) (ap (λ r. completed_rows seen ++ option_to_list r) row ∙ sym (completed_push seen event)) (c.in_ok-put_row.ensures (completed_rows seen) has.1.0),
        c.failed_after-self.ensures ∙ failed_more seen event c.in_ok-row.row c.args.self.now.failed has.1.1 row,
      ),
    )
