use Rattle.std.proofs.Common.{List, ℕ, Option, ◌++◌, refl, ap, ◌∙◌, append_assoc}
use Rattle.std.specs.List.{flat_map}
use Rattle.std.specs.Option.{option_map, option_to_list}
use Rattle.outcome_fold.specs.declared.row.Row.{Row}
use Rattle.outcome_fold.specs.EndedParts.{row_of_part}
use Rattle.outcome_fold.proofs.EndedLemmas.{row_is}
use Rattle.filter_cli.specs.Events.{events_among, passed_on, loose_bytes}
use Rattle.filter_cli.specs.Ls.{shown_line}
use Rattle.filter_cli.proofs.EventLemmas.{event_more, failed_more}
use Rattle.filter_cli.proofs.ls.LsNoteFilter.take.Goals as goal

pub returns-clause-ok : goal.returns-clause-ok
returns-clause-ok c event spells notes has =
    let seen = events_among notes in
    let row = row_is seen event c.in_ok-part.part (option_map row_of_part c.in_ok-part.part) (c.in_ok-part.ensures.part seen event spells has.0) refl in
    rw (event_more notes event) (
      c.in_ok-part.ensures.ok seen event spells has.0,
      c.failed_after_part-self.ensures ∙ failed_more seen event (option_map row_of_part c.in_ok-part.part) c.args.self.now.failed has.1 row,
    )

pub returns-clause-text : goal.returns-clause-text
returns-clause-text c event spells notes has =
    let seen = events_among notes in
    let listing = c.args.self.now.listing in
    let lines = λ (r : Option Row). flat_map (shown_line listing) (option_to_list r) in
    let row = row_is seen event c.in_ok-part.part (option_map row_of_part c.in_ok-part.part) (c.in_ok-part.ensures.part seen event spells has.0) refl in
    c.in_ok-put_part.ensures
    ∙ ap (λ (l : List ℕ). l ++ lines (option_map row_of_part c.in_ok-part.part)) (c.in_ok-put_loose.ensures event spells)
    ∙ append_assoc c.args.text.now.items (passed_on listing.hidden (loose_bytes event)) (lines (option_map row_of_part c.in_ok-part.part))
    ∙ ap (λ (r : Option Row). c.args.text.now.items ++ (passed_on listing.hidden (loose_bytes event) ++ lines r)) row
