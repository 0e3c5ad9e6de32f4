use Rattle.std.proofs.Common.{◌≡◌, ◌++◌}
use Rattle.std.specs.List.{flat_map}
use Rattle.outcome_fold.specs.EndedParts.{row_of_part}
use Rattle.event_sift.specs.Keeping.{keeps}
use Rattle.event_sift.specs.PacketSifted.{other_packets_in, packets_if_kept}
use Rattle.event_sift.proofs.packet_sift.PacketSift.release_all.Given as goal

abbrev pub invariant-loop-part : goal.invariant-loop-part
invariant-loop-part g l = record {
  gives : l.out.items ≡ l.fn.out.items ++ flat_map (λ part. packets_if_kept (keeps l.fn.self.rules.now) (other_packets_in l.held) (row_of_part part)) l.yielded;
  rules : l.self.rules.now ≡ l.fn.self.rules.now;
  predicate : g.P.Predicate.rules l.self.predicate ≡ l.fn.self.rules.now;
}
