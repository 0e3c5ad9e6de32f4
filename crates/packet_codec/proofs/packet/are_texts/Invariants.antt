use Rattle.std.proofs.Common.{List, ℕ}
use Rattle.packet_codec.specs.Shapes.{ShowsRuns}
use Rattle.sub_number.proofs.NumberLemmas.{AreBytes}
use Rattle.packet_codec.proofs.RunsLeft.{Left, SameTexts}
use Rattle.packet_codec.proofs.packet.are_texts.Given as goal

abbrev pub invariant-loop : goal.invariant-loop
invariant-loop l = record {
  are_bytes : AreBytes l.rest;
  left : (runs : List (List ℕ)) → ShowsRuns l.count l.bytes runs → Left l.rest l.count l.counter (SameTexts runs);
}
