use Rattle.v1_bridge.proofs.WriteLemmas.{parts_more, last_more}
use Rattle.v1_bridge.proofs.writer.put_parts.Goals as goal

pub loop-part-preserved : goal.loop-part-preserved
loop-part-preserved c = record {
  text = parts_more c.args.out.now.items c.loop-part.out.items _ c.args.last c.loop-part.before c.loop-part.yielded c.in-Some.part c.loop-part.invariant.text c.loop-part.invariant.last c.in_ok-before.ensures.text;
  last = last_more c.args.last c.loop-part.before _ c.loop-part.yielded c.in-Some.part c.loop-part.invariant.last c.in_ok-before.ensures.last;
}
