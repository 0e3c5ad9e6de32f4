use Rattle.std.proofs.Common.{◌≡◌}
use Rattle.event_sift.specs.Sifted.{rules_asked}
use Rattle.event_sift.specs.PacketSifted.{packet_predicate_of, packet_rules_of}
use Rattle.fold_rows.proofs.sifts.hear_all.Given as goal

abbrev pub invariant-loop-event : goal.invariant-loop-event
invariant-loop-event l = rules_asked (packet_predicate_of l.sift) ≡ packet_rules_of l.sift
