use Rattle.std.proofs.Common.{◌∙◌, ap, [], ◌++◌}
use Rattle.std.specs.Option.{unwrap_or}
use Rattle.outcome_fold.specs.Order.{in_byte_order}
use Rattle.outcome_fold.proofs.SetLemmas.{order_append}
use Rattle.event_sift.proofs.tagger.Tagger.gathered.Goals as goal

pub returns : goal.returns
returns c =
    c.in_ok-insert_all.ensures ∙ ap (λ tags. in_byte_order (c.in_ok-texts.texts ++ tags)) c.list.ensures
    ∙ ap (λ own. in_byte_order (own ++ c.args.self.now.add)) c.in_ok-texts.ensures
    ∙ order_append (unwrap_or c.args.own.now []) c.args.self.now.add
