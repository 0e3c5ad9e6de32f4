use Rattle.std.proofs.Common.{◌∙◌, ap, []}
use Rattle.std.specs.Option.{unwrap_or}
use Rattle.outcome_fold.proofs.TableLemmas.{lookup_in_map, removed}
use Rattle.outcome_fold.proofs.OrderLemmas.{tests_total, exact_tests}
use Rattle.last_failures.proofs.parts.FailedParts.take.Goals as goal

pub returns-in-Some-clause-packets : goal.returns-in-Some-clause-packets
returns-in-Some-clause-packets c = ap (λ packets. unwrap_or packets []) (c.in-Some.ensures.value ∙ lookup_in_map tests_total _ _)

pub returns-in-Some-clause-open : goal.returns-in-Some-clause-open
returns-in-Some-clause-open c = removed tests_total exact_tests _ _ _ c.remove.ensures.updates.0

pub returns-in-None-clause-packets : goal.returns-in-None-clause-packets
returns-in-None-clause-packets c = c.none.ensures ∙ ap (λ packets. unwrap_or packets []) (c.in-None.ensures.value ∙ lookup_in_map tests_total _ _)

pub returns-in-None-clause-open : goal.returns-in-None-clause-open
returns-in-None-clause-open c = removed tests_total exact_tests _ _ _ c.remove.ensures.updates.0
