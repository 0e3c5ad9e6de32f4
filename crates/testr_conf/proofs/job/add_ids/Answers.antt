use Rattle.std.proofs.Common.{arith, subst, sym}
use Rattle.std.proofs.lemmas.Grind.{common_steps}
use Rattle.sub_number.specs.Texts.{IsText}
use Rattle.testr_conf.proofs.TextLemmas.{text_then, text_one}
use Rattle.testr_conf.proofs.job.add_ids.Goals as goal

pub loop-id-preserved : goal.loop-id-preserved
loop-id-preserved c = record {
  value = grind (arith, common_steps);
  text =
      text_then c.push.new.self.items c.extend_from_slice.new.self.items c.bytes.result.now c.in_ok-extend_from_slice.ensures.items
      (text_then c.loop-id.list.items c.push.new.self.items _ c.in_ok-push.ensures.items c.loop-id.invariant.text (text_one 32 (omega arith) (omega arith)))
      (subst IsText (sym c.bytes.ensures.bytes) c.bytes.ensures.text.text);
}
