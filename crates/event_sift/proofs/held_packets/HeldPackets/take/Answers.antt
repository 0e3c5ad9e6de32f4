use Rattle.std.proofs.Common.{◌∙◌, ap}
use Rattle.std.specs.FinMap as map
use Rattle.outcome_fold.specs.Order.{test_cmp}
use Rattle.outcome_fold.proofs.TableLemmas.{removed}
use Rattle.outcome_fold.proofs.OrderLemmas.{tests_total, exact_tests}
use Rattle.event_sift.proofs.PacketLemmas.{found_packets}
use Rattle.event_sift.proofs.held_packets.HeldPackets.take.Goals as goal

pub returns-in-Some-clause-packets : goal.returns-in-Some-clause-packets
returns-in-Some-clause-packets c = found_packets _ _ _ c.in-Some.ensures.value

pub returns-in-Some-clause-others : goal.returns-in-Some-clause-others
returns-in-Some-clause-others c = removed tests_total exact_tests _ _ _ c.remove.ensures.updates.0

pub returns-in-None-clause-packets : goal.returns-in-None-clause-packets
returns-in-None-clause-packets c = c.room.ensures.room ∙ found_packets _ _ _ c.in-None.ensures.value

pub returns-in-None-clause-others : goal.returns-in-None-clause-others
returns-in-None-clause-others c =
    ap (λ m. map.from_entries {R = test_cmp} m.entries) c.room.ensures.others ∙ removed tests_total exact_tests _ _ _ c.remove.ensures.updates.0
