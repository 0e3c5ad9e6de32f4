use Rattle.std.proofs.Common.{ap, ◌∙◌, not, rules, List, ℕ}
use Rattle.std.specs.Borrow.{Bor}
use Rattle.std.proofs.lemmas.Fn.{filter_same}
use Rattle.packet_codec.specs.Retagging.{lent_bytes}
use Rattle.outcome_fold.specs.Order.{among}
use Rattle.event_sift.proofs.TagLemmas.{lent_filter}
use Rattle.event_sift.proofs.lent_tags.take_out.Goals as goal

pub returns : goal.returns
returns c =
    ap lent_bytes (filter_same _ (λ (tag : Bor (List ℕ)). not (among c.args.texts.now tag.now)) _ (λ x b f k. search rules) _ _ c.retain.ensures.filtered)
    ∙ lent_filter (λ tag. not (among c.args.texts.now tag)) c.args.tags.now.items
