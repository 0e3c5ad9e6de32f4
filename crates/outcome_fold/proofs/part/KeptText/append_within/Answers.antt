use Rattle.std.proofs.Common.{◌≡◌, ◌∙◌, ap, ◌-◌, ◌++◌, take, length, rules}
use Rattle.outcome_fold.proofs.TextLemmas.{fitting}
use Rattle.outcome_fold.proofs.part.KeptText.append_within.Goals as goal

pub returns-clause-ok : goal.returns-clause-ok
returns-clause-ok c =
    let room : c.saturating_sub-room.result ≡ c.args.limit - length c.self.inside.bytes.items = search rules in
    let kept : c.truncate.new.self.items ≡ take c.args.limit (c.self.inside.bytes.items ++ c.args.piece.now) =
    c.truncate.ensures.items
    ∙ ap (take c.args.limit) (c.in_ok-extend_from_slice.ensures.items ∙ ap (λ n. c.self.inside.bytes.items ++ take n c.args.piece.now) c.min.ensures)
    ∙ fitting c.args.limit _ c.self.inside.bytes.items c.args.piece.now room in
    cc
