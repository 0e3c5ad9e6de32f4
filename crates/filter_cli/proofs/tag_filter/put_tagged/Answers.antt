use Rattle.std.proofs.Common.{None, Some, ap, ◌∙◌}
use Rattle.packet_codec.specs.Retagging.{lent_bytes}
use Rattle.filter_cli.proofs.TaggedLemmas.{tagged_result}
use Rattle.filter_cli.proofs.tag_filter.put_tagged.Goals as goal

pub returns-in-None : goal.returns-in-None
returns-in-None c event spells plain =
    tagged_result _ _ _ c.args.tagger.now event None (lent_bytes c.args.plain.now) (rw c.in-None.is at (c.in_ok-found.ensures event spells)) plain (c.put_with.ensures event spells)

pub returns-in_ok-tags-in-Some : goal.returns-in_ok-tags-in-Some
returns-in_ok-tags-in-Some c event spells plain =
    tagged_result _ _ _ c.args.tagger.now event (Some (lent_bytes c.in-Some.own.items)) (lent_bytes c.deref.result.now) (rw c.in-Some.is at (c.in_ok-found.ensures event spells)) (ap lent_bytes c.deref.ensures.value ∙ c.in_ok-tags-in-Some.ensures) (c.put_with-in-Some.ensures event spells)
