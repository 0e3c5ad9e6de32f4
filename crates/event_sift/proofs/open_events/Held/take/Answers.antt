use Rattle.std.proofs.Common.{◌∙◌, ap, []}
use Rattle.std.specs.Option.{unwrap_or}
use Rattle.outcome_fold.proofs.TableLemmas.{lookup_in_map, removed}
use Rattle.outcome_fold.proofs.OrderLemmas.{tests_total, exact_tests}
use Rattle.event_sift.proofs.open_events.Held.take.Goals as goal

pub returns-in-Some-clause-part : goal.returns-in-Some-clause-part
returns-in-Some-clause-part c = ap (λ part. unwrap_or part []) (c.in-Some.ensures.value ∙ lookup_in_map tests_total _ _)

pub returns-in-Some-clause-rest : goal.returns-in-Some-clause-rest
returns-in-Some-clause-rest c = removed tests_total exact_tests _ _ _ c.remove.ensures.updates.0

pub returns-in-None-clause-part : goal.returns-in-None-clause-part
returns-in-None-clause-part c = c.new.ensures ∙ ap (λ part. unwrap_or part []) (c.in-None.ensures.value ∙ lookup_in_map tests_total _ _)

pub returns-in-None-clause-rest : goal.returns-in-None-clause-rest
returns-in-None-clause-rest c = removed tests_total exact_tests _ _ _ c.remove.ensures.updates.0
