use Rattle.std.proofs.Common.{refl}
use Rattle.outcome_fold.proofs.RoutedLemmas.{sums_by_route}
use Rattle.outcome_fold.proofs.summary.Summary.in_order.Goals as goal

pub returns : goal.returns
returns c = λ filter_tags rows sums. sums_by_route filter_tags rows c.args.self _ sums c.in_ok-by_route.ensures refl c.settle.ensures refl
