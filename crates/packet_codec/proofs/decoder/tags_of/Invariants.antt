use Rattle.std.proofs.Common.{◌≡◌, ◌++◌, List, ℕ, All}
use Rattle.sub_number.specs.Texts.{IsShortText}
use Rattle.packet_codec.specs.Shapes.{ShowsRuns}
use Rattle.sub_number.proofs.NumberLemmas.{AreBytes}
use Rattle.packet_codec.proofs.RunsLeft.{Left}
use Rattle.packet_codec.proofs.decoder.tags_of.Given as goal

abbrev pub invariant-loop : goal.invariant-loop
invariant-loop l = record {
  are_bytes : AreBytes l.rest;
  texts : Left l.rest l.count l.counter (All IsShortText);
  left : (runs : List (List ℕ)) → ShowsRuns l.count l.bytes runs → Left l.rest l.count l.counter (λ left. l.tags ++ left ≡ runs);
}
