use Rattle.std.proofs.Common.{◌++◌, ◌∙◌, ap}
use Rattle.std.specs.FinMap as fin
use Rattle.outcome_fold.proofs.TableLemmas.{inserted}
use Rattle.outcome_fold.proofs.OrderLemmas.{tests_total, exact_tests}
use Rattle.packet_codec.specs.Canonical.{canonical}
use Rattle.last_failures.proofs.parts.FailedParts.go_on.Goals as goal

pub returns-clause-open : goal.returns-clause-open
returns-clause-open c =
    inserted tests_total exact_tests _ _ _ _ c.in_ok-insert.ensures.updates.0
    ∙ (λ i. fin.insert (c.take-packets.ensures.open i) c.args.key ((c.in_ok-push.ensures ∙ ap (λ l. l ++ canonical c.args.event.now) c.take-packets.ensures.packets) i))
