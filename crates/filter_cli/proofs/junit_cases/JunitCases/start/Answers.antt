use Rattle.std.proofs.Common.{◌∙◌, ap}
use Rattle.std.specs.FinMap as fin
use Rattle.outcome_fold.specs.Order.{route_cmp}
use Rattle.outcome_fold.proofs.TableLemmas.{inserted}
use Rattle.outcome_fold.proofs.OrderLemmas.{routes_total, exact_routes}
use Rattle.filter_cli.proofs.junit_cases.JunitCases.start.Goals as goal

pub returns : goal.returns
returns c =
    rw (← c.self.view_is) (inserted routes_total exact_routes _ _ _ _ c.in_ok-insert.ensures.updates.0
    ∙ ap (fin.insert (fin.from_entries {R = route_cmp} c.self.inside.by_route.entries) c.args.row.route) c.in_ok-cases.ensures)
