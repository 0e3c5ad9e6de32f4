use Rattle.std.proofs.Common.{◌++◌, ap, sym, ◌∙◌}
use Rattle.packet_codec.specs.Canonical.{canonical}
use Rattle.packet_codec.specs.Retagging.{if_any, lent_bytes, with_tags}
use Rattle.packet_codec.specs.declared.event.Event.{Event}
use Rattle.filter_cli.proofs.TaggedLemmas.{has_room, kept_result}
use Rattle.filter_cli.proofs.tag_filter.put_with.Goals as goal

pub returns-then-put : goal.returns-then-put
returns-then-put c event spells =
    let put = c.in_ok-put.ensures.put event spells c.if-put.true in
    put.1 ∙ ap (λ (e : Event). c.args.text.now.items ++ canonical e) (sym (has_room (with_tags event (if_any (lent_bytes c.args.tags.now))) event put.0))

pub returns : goal.returns
returns c event spells =
    let kept = c.in_ok-put.ensures.too_long event spells c.if-put.false in
    kept_result c.put_shortest.result _ _ _ (with_tags event (if_any (lent_bytes c.args.tags.now))) event kept.1 kept.0 (c.put_shortest.ensures.ok event spells)
