use Rattle.std.proofs.Common.{arith, length-drop, refl}
use Rattle.std.proofs.lemmas.List.{take_rest}
use Rattle.junit_xml.proofs.WritingLemmas.{run_more}
use Rattle.junit_xml.proofs.characters.plain_size.Goals as goal

pub loop-size-preserved : goal.loop-size-preserved
loop-size-preserved c =
    let bound = rw (take_rest, length-drop) at c.front_size-more.ensures.within in
    record {
      within = omega arith;
      plain = run_more _ _ _ _ c.loop-size.invariant.plain (rw take_rest at c.front_size-more.ensures.plain);
    }
