use Rattle.std.proofs.Common.{◌≡◌, ◌++◌, List, ℕ, length, take}
use Rattle.std.specs.List.{flat_map}
use Rattle.packet_codec.specs.Canonical.{canonical_text}
use Rattle.packet_codec.specs.Shapes.{ShowsRuns}
use Rattle.sub_number.proofs.NumberLemmas.{AreBytes}
use Rattle.packet_codec.proofs.RunsLeft.{Left}
use Rattle.packet_codec.proofs.respelled_bytes.put_runs.Given as goal

abbrev pub invariant-loop : goal.invariant-loop
invariant-loop l = record {
  are_bytes : AreBytes l.rest;
  kept : take (length l.initial.out.items) l.out.items ≡ l.initial.out.items;
  left : (runs : List (List ℕ)) → ShowsRuns l.count l.bytes runs → Left l.rest l.count l.counter (λ left. l.out.items ++ flat_map canonical_text left ≡ l.initial.out.items ++ flat_map canonical_text runs);
}
