use Rattle.std.proofs.Common.{◌∙◌, ap, subst, sym, ◌++◌}
use Rattle.std.specs.List.Sorted.{IsStrictlySortedBy}
use Rattle.packet_codec.specs.Retagging.{lent_bytes}
use Rattle.outcome_fold.specs.Order.{in_byte_order, text_cmp, without}
use Rattle.outcome_fold.proofs.SetLemmas.{order_append}
use Rattle.event_sift.proofs.TagLemmas.{order_rises}
use Rattle.event_sift.proofs.tagger.Tagger.tags_for.Goals as goal

pub put_texts-requires : goal.put_texts-requires
put_texts-requires c = subst (IsStrictlySortedBy text_cmp) (sym c.put_in_order.ensures) (order_rises _)

pub returns : goal.returns
returns c =
    c.take_out.ensures ∙ ap (without (lent_bytes c.put_texts.new.tags.items)) c.list-2.ensures
    ∙ ap (λ tags. without tags c.args.self.now.remove)
    (c.in_ok-put_texts.ensures ∙ ap (λ more. in_byte_order (lent_bytes c.put_in_order.new.tags.items ++ more)) c.list.ensures
    ∙ ap (λ tags. in_byte_order (tags ++ c.args.self.now.add)) c.put_in_order.ensures
    ∙ order_append (lent_bytes c.args.own.items) c.args.self.now.add)
