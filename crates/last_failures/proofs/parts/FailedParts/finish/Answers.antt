use Rattle.std.proofs.Common.{◌++◌, ◌∙◌, cond, sym, ap}
use Rattle.std.specs.FinMap as fin
use Rattle.outcome_fold.specs.Order.{test_cmp}
use Rattle.outcome_fold.proofs.TableLemmas.{inserted}
use Rattle.outcome_fold.proofs.OrderLemmas.{tests_total, exact_tests}
use Rattle.outcome_fold.specs.TestPackets.{packets_at}
use Rattle.packet_codec.specs.Canonical.{canonical}
use Rattle.last_failures.specs.Gathering.{open_packets_in, failed_in}
use Rattle.last_failures.proofs.parts.FailedParts.finish.Goals as goal

pub returns-clause-failed : goal.returns-clause-failed
returns-clause-failed c =
    let packets = packets_at (open_packets_in c.args.self.now) c.args.key ++ canonical c.args.event.now in
    inserted tests_total exact_tests _ _ _ _ c.in_ok-insert.ensures.updates.0
    ∙ (λ i. fin.insert (fin.from_entries {R = test_cmp} (c.take-packets.ensures.failed i).entries) c.args.key ((c.in_ok-push.ensures ∙ ap (λ l. l ++ canonical c.args.event.now) c.take-packets.ensures.packets) i))
    ∙ sym (ap (λ b. cond b (fin.insert (failed_in c.args.self.now) c.args.key packets) (failed_in c.args.self.now)) (sym c.fails.ensures ∙ c.if-not-fails.false))
