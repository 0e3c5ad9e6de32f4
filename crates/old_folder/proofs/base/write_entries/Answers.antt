use Rattle.std.proofs.Common.{subst, arith}
use Rattle.std.proofs.lemmas.Grind.{common_steps}
use Rattle.std.proofs.lemmas.List.Elements.{All-more}
use Rattle.sub_number.specs.Texts.{IsShortText}
use Rattle.old_folder.proofs.base.write_entries.Goals as goal

pub loop-id-preserved : goal.loop-id-preserved
loop-id-preserved c = record {
  bytes = grind (arith, common_steps);
  texts = All-more IsShortText c.args.ids.now c.loop-id.id-index c.id-item.result c.loop-id-test.true c.loop-id.invariant.texts (subst IsShortText c.id-item.is c.bytes.ensures.text);
}
