use Rattle.std.proofs.Common.{arith}
use Rattle.std.proofs.lemmas.Grind.{common_steps}
use Rattle.std.proofs.lemmas.List.Elements.{All-more}
use Rattle.sub_number.specs.Texts.{IsShortText}
use Rattle.packet_codec.proofs.sizes.texts_size.Goals as goal

pub loop-text-preserved : goal.loop-text-preserved
loop-text-preserved c = record {
  size = grind (arith, common_steps);
  small = omega arith;
  texts = All-more IsShortText _ _ c.text-item.result (omega arith) c.loop-text.invariant.texts (rw (← c.text-item.is) c.text_size-sum.ensures.text);
}
