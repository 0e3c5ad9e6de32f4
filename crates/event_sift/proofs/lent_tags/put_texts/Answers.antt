use Rattle.std.proofs.Common.{◌∷◌, ◌∙◌, sym, ap, subst}
use Rattle.std.specs.List.Sorted.{IsStrictlySortedBy}
use Rattle.std.proofs.lemmas.List.{append-nil}
use Rattle.packet_codec.specs.Retagging.{lent_bytes}
use Rattle.outcome_fold.specs.Order.{in_byte_order, text_cmp}
use Rattle.outcome_fold.proofs.SetLemmas.{one_inserted, ordered_already}
use Rattle.event_sift.proofs.TagLemmas.{order_rises}
use Rattle.event_sift.proofs.lent_tags.put_texts.Goals as goal

pub loop-text-init : goal.loop-text-init
loop-text-init c = sym (ordered_already _ c.requires) ∙ ap in_byte_order (sym (append-nil _))

pub put-requires : goal.put-requires
put-requires c = subst (IsStrictlySortedBy text_cmp) (sym c.loop-text.invariant) (order_rises _)

pub loop-text-preserved : goal.loop-text-preserved
loop-text-preserved c =
    c.in_ok-put.ensures ∙ ap (λ text. in_byte_order (text ∷ lent_bytes c.loop-text.tags.items)) c.bytes.ensures.bytes
    ∙ one_inserted (lent_bytes c.args.tags.now.items) c.args.texts.now (lent_bytes c.loop-text.tags.items) c.loop-text.text-index c.text-item.result c.loop-text.invariant c.loop-text-test.true c.text-item.is
