use Rattle.std.proofs.Common.{◌∙◌, ap}
use Rattle.outcome_fold.proofs.TableLemmas.{inserted}
use Rattle.outcome_fold.proofs.OrderLemmas.{tests_total, exact_tests}
use Rattle.event_sift.specs.PacketSifted.{other_packets_in, with_last}
use Rattle.event_sift.proofs.held_packets.HeldPackets.set_aside.Goals as goal

pub returns : goal.returns
returns c =
    (c.in-Some.ensures.after, inserted tests_total exact_tests _ _ _ _ c.in_ok-insert.ensures.updates.0 ∙ ap (λ o. with_last o (other_packets_in c.args.self.now)) c.in-Some.ensures.value)
