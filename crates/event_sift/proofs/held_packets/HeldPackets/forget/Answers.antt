use Rattle.outcome_fold.proofs.TableLemmas.{removed}
use Rattle.outcome_fold.proofs.OrderLemmas.{tests_total, exact_tests}
use Rattle.event_sift.proofs.PacketLemmas.{none_removed}
use Rattle.event_sift.proofs.held_packets.HeldPackets.forget.Goals as goal

pub returns-then-is_empty-clause-others : goal.returns-then-is_empty-clause-others
returns-then-is_empty-clause-others c = none_removed _ _ (c.is_empty.ensures.0 c.if-is_empty.true)

pub returns-clause-others : goal.returns-clause-others
returns-clause-others c = removed tests_total exact_tests _ _ _ c.remove.ensures.updates.0
