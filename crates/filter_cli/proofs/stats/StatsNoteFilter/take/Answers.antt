use Rattle.std.proofs.Common.{◌++◌, refl, subst, sym, ap, ◌∙◌}
use Rattle.std.specs.Option.{option_to_list}
use Rattle.outcome_fold.specs.Rows.{completed_rows}
use Rattle.outcome_fold.proofs.EndedLemmas.{row_is}
use Rattle.outcome_fold.proofs.OutcomeLemmas.{completed_push}
use Rattle.filter_cli.specs.Events.{events_among}
use Rattle.filter_cli.specs.Tally.{HasTallied}
use Rattle.filter_cli.proofs.EventLemmas.{event_more}
use Rattle.filter_cli.proofs.stats.StatsNoteFilter.take.Goals as goal

pub returns-clause-ok : goal.returns-clause-ok
returns-clause-ok c event spells notes has =
    let seen = events_among notes in
    let row = row_is seen event _ _ (c.in_ok-part.ensures.part seen event spells has.0) refl in
    rw (event_more notes event) (
      c.in_ok-part.ensures.ok seen event spells has.0,
      subst (HasTallied _) (ap (λ r. completed_rows seen ++ option_to_list r) row ∙ sym (completed_push seen event)) (c.in_ok-count_part.ensures (completed_rows seen) has.1),
    )
