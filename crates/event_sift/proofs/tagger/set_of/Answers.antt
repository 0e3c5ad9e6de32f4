use Rattle.std.proofs.Common.{◌∙◌, sym, ap, ◌++◌, []}
use Rattle.std.specs.Option.{unwrap_or}
use Rattle.outcome_fold.specs.Order.{in_byte_order}
use Rattle.outcome_fold.proofs.SetLemmas.{order_of_none}
use Rattle.event_sift.proofs.tagger.set_of.Goals.{in-Some+in_ok-insert_all, in_default}
use Rattle.event_sift.proofs.tagger.set_of.Goals as goal

pub returns : goal.returns
returns c = elim c.match-tags.branch [
  | in-Some+in_ok-insert_all w ↦ w.texts-is ∙ w.in_ok-insert_all.ensures
      ∙ ap (λ before. in_byte_order (before ++ w.list.result.now)) c.new-texts.ensures
      ∙ ap in_byte_order w.list.ensures
      ∙ ap (λ tags. in_byte_order (unwrap_or tags [])) (sym w.in-Some.is)
  | in_default w ↦ w.texts-is ∙ c.new-texts.ensures ∙ sym order_of_none ∙ ap (λ tags. in_byte_order (unwrap_or tags [])) (sym w.in_default.is)
]
