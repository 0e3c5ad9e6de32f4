use Rattle.std.proofs.Common.{◌≡◌, ◌+◌, ◌*◌, ◌≤◌, ◌^◌, List, ℕ, length}
use Rattle.std.specs.List.{flat_map}
use Rattle.packet_codec.specs.Canonical.{canonical_text}
use Rattle.packet_codec.specs.Shapes.{ShowsRuns}
use Rattle.sub_number.proofs.NumberLemmas.{AreBytes}
use Rattle.packet_codec.proofs.RunsLeft.{Left}
use Rattle.packet_codec.proofs.respelled_size.runs_size.Given as goal

abbrev pub invariant-loop : goal.invariant-loop
invariant-loop l = record {
  are_bytes : AreBytes l.rest;
  small : l.sum ≤ l.counter * 2 ^ 65;
  left : (runs : List (List ℕ)) → ShowsRuns l.count l.bytes runs → Left l.rest l.count l.counter (λ left. l.sum + length (flat_map canonical_text left) ≡ length (flat_map canonical_text runs));
}
