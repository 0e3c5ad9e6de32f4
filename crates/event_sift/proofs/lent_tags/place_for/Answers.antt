use Rattle.std.proofs.Common.{[], arith}
use Rattle.event_sift.proofs.TagLemmas.{place_behind, place_in_front, place_further, there_already}
use Rattle.event_sift.proofs.lent_tags.place_for.Goals as goal

pub returns-in-Less-clause-inserted : goal.returns-in-Less-clause-inserted
returns-in-Less-clause-inserted c = place_behind c.args.tags.now c.loop-place.place c.args.tag.now (record { ref_ptr = (0, 0); now = [] }) c.requires c.loop-place-test.true c.loop-place.invariant.within c.in-Less.ensures c.loop-place.invariant.behind

pub returns-in-Equal-clause-none : goal.returns-in-Equal-clause-none
returns-in-Equal-clause-none c = there_already c.args.tags.now c.loop-place.place c.args.tag.now (record { ref_ptr = (0, 0); now = [] }) c.requires c.loop-place-test.true c.loop-place.invariant.within c.in-Equal.ensures

pub loop-place-preserved : goal.loop-place-preserved
loop-place-preserved c = record {
  within = omega (arith, c.loop-place.invariant.within);
  behind = place_further c.args.tags.now c.loop-place.place c.args.tag.now (record { ref_ptr = (0, 0); now = [] }) c.loop-place-test.true c.loop-place.invariant.within c.in-Greater.ensures c.loop-place.invariant.behind;
}

pub returns-clause-inserted : goal.returns-clause-inserted
returns-clause-inserted c = place_in_front c.args.tags.now c.loop-place.place c.args.tag.now c.requires c.loop-place-test.false c.loop-place.invariant.behind
