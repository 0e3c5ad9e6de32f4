use Rattle.std.proofs.Common.{ap, ◌∙◌}
use Rattle.packet_codec.specs.Retagging.{lent_bytes}
use Rattle.event_sift.proofs.TagLemmas.{lent_insert, inserted_as}
use Rattle.event_sift.proofs.lent_tags.put.Goals as goal

pub returns-in_ok-insert : goal.returns-in_ok-insert
returns-in_ok-insert c = ap lent_bytes c.in_ok-insert.ensures.items ∙ lent_insert c.args.tags.now.items c.in-Some.place c.args.tag ∙ inserted_as c.args.tags.now.items c.deref.result.now c.in-Some.place c.args.tag.now c.deref.ensures.value c.in-Some.ensures.inserted
