use Rattle.std.proofs.Common.{All, rules, subst}
use Rattle.std.proofs.lemmas.List.{take_all}
use Rattle.std.proofs.lemmas.List.Elements.{All-more}
use Rattle.sub_number.specs.Texts.{IsShortText}
use Rattle.suite_run.proofs.lane_starter.are_texts.Goals as goal

pub loop-id-preserved : goal.loop-id-preserved
loop-id-preserved c = All-more IsShortText c.args.ids.now c.loop-id.id-index c.id-item.result c.loop-id-test.true c.loop-id.invariant (subst IsShortText c.id-item.is (search rules))

pub returns : goal.returns
returns c = subst (All IsShortText) (take_all c.loop-id.id-index c.args.ids.now c.loop-id-test.false) c.loop-id.invariant
