use Rattle.std.proofs.Common.{◌≡◌, ◌∙◌, ap, ◌++◌, List, ℕ, take}
use Rattle.outcome_fold.proofs.StepLemmas.{take_again}
use Rattle.outcome_fold.proofs.part.KeptText.with_reason.Goals as goal

pub returns : goal.returns
returns c =
    let first : c.append_reason.new.self ≡ take 1024 c.self.inside.bytes.items =
    c.in_ok-append_reason.ensures.ok ∙ (λ i. take 1024 (c.new-reason.ensures i ++ c.as_slice.ensures.value i)) in
    let both : c.append_reason-2.new.self ≡ take 1024 (c.self.inside.bytes.items ++ c.args.piece.now) =
    c.in_ok-append_reason-2.ensures.ok ∙ ap (λ (l : List ℕ). take 1024 (l ++ c.args.piece.now)) first ∙ take_again 1024 c.self.inside.bytes.items c.args.piece.now in
    cc
