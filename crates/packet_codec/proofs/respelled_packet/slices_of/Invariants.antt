use Rattle.std.proofs.Common.{◌≡◌, ◌++◌, List, ℕ}
use Rattle.packet_codec.specs.Retagging.{lent_bytes}
use Rattle.packet_codec.specs.Shapes.{ShowsRuns}
use Rattle.sub_number.proofs.NumberLemmas.{AreBytes}
use Rattle.packet_codec.proofs.RunsLeft.{Left}
use Rattle.packet_codec.proofs.respelled_packet.slices_of.Given as goal

abbrev pub invariant-loop : goal.invariant-loop
invariant-loop l = record {
  are_bytes : AreBytes l.rest;
  left : (runs : List (List ℕ)) → ShowsRuns l.count l.bytes runs → Left l.rest l.count l.counter (λ left. lent_bytes l.slices.items ++ left ≡ runs);
}
