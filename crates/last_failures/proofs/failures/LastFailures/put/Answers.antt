use Rattle.std.proofs.Common.{◌∙◌, ap}
use Rattle.std.specs.FinMap as map
use Rattle.outcome_fold.proofs.TableLemmas.{inserted}
use Rattle.outcome_fold.proofs.OrderLemmas.{texts_total, exact_texts}
use Rattle.last_failures.specs.Last.{failures_in}
use Rattle.last_failures.proofs.failures.LastFailures.put.Goals as goal

pub returns : goal.returns
returns c =
    inserted texts_total exact_texts _ _ _ _ c.in_ok-insert.ensures.updates.0
    ∙ ap (λ id. map.insert (failures_in c.args.self.now) id c.args.failure) c.in_ok-copy.ensures
