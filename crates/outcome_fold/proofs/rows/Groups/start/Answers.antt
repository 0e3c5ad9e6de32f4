use Rattle.std.proofs.Common.{◌∙◌}
use Rattle.std.specs.FinMap as map
use Rattle.outcome_fold.specs.Grouped.{groups_in}
use Rattle.outcome_fold.proofs.TableLemmas.{inserted}
use Rattle.outcome_fold.proofs.OrderLemmas.{routes_total, exact_routes}
use Rattle.outcome_fold.proofs.rows.Groups.start.Goals as goal

pub returns : goal.returns
returns c =
    inserted routes_total exact_routes _ _ _ _ c.in_ok-insert.ensures.updates.0
    ∙ (λ i. map.insert (groups_in c.args.self.now) (c.in_ok-route.ensures i) (c.in_ok-group.ensures i))
