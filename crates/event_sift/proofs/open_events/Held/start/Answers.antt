use Rattle.std.proofs.Common.{◌∙◌, ap}
use Rattle.std.specs.FinMap as map
use Rattle.outcome_fold.proofs.TableLemmas.{inserted}
use Rattle.outcome_fold.proofs.OrderLemmas.{tests_total, exact_tests}
use Rattle.event_sift.specs.Sifted.{parts_in}
use Rattle.event_sift.proofs.open_events.Held.start.Goals as goal

pub returns : goal.returns
returns c =
    inserted tests_total exact_tests _ _ _ _ c.in_ok-insert.ensures.updates.0
    ∙ ap (map.insert (parts_in c.args.self.now) c.args.key) c.in_ok-part.ensures
