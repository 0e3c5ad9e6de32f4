use Rattle.std.proofs.Common.{◌≡◌, List, ℕ, All, length}
use Rattle.sub_number.specs.Texts.{IsShortText}
use Rattle.packet_codec.specs.Shapes.{ShowsRuns}
use Rattle.sub_number.proofs.NumberLemmas.{AreBytes}
use Rattle.packet_codec.proofs.RunsLeft.{Left, SameBefore}
use Rattle.packet_codec.proofs.fields.are_same.Given as goal

abbrev pub invariant-loop-text : goal.invariant-loop-text
invariant-loop-text l = record {
  size : length l.texts ≡ l.count;
  are_bytes : AreBytes l.rest;
  texts : Left l.rest l.count l.text-index (All IsShortText);
  left : (runs : List (List ℕ)) → ShowsRuns l.count l.bytes runs → Left l.rest l.count l.text-index (SameBefore l.texts l.text-index runs);
}
