use Rattle.std.proofs.Common.{sym, ap, ◌∙◌, ◌++◌}
use Rattle.event_sift.specs.Keeping.{keeps}
use Rattle.event_sift.specs.Released.{released_by}
use Rattle.event_sift.proofs.SiftLemmas.{released_push}
use Rattle.event_sift.proofs.filtered_list.take.Goals as goal

pub returns-clause-released : goal.returns-clause-released
returns-clause-released g c seen has before =
    c.in_ok-append.ensures.items ∙ ap (λ l. l ++ c.in_ok-events.events.items) before
    ∙ ap (λ l. released_by (keeps c.args.sift.now.rules.now) seen ++ l) (c.in_ok-events.ensures.released seen has)
    ∙ sym (released_push (keeps c.args.sift.now.rules.now) seen c.args.event)
