use Rattle.std.proofs.Common.{◌≡◌, ◌++◌, ◌∙◌, ap, take, codes, append_assoc}
use Rattle.outcome_fold.specs.Parts.{text_limit}
use Rattle.outcome_fold.specs.Files.{frame_end}
use Rattle.outcome_fold.proofs.TextLemmas.{four_pieces}
use Rattle.outcome_fold.proofs.files.lead_to.Goals as goal

pub returns : goal.returns
returns c =
    let first : c.append.new.self ≡ take text_limit (c.new-lead.result ++ frame_end c.args.text.now) =
    c.in_ok-append.ensures.ok ∙ ap (λ l. take text_limit (c.new-lead.result ++ l)) c.end_behind.ensures in
    four_pieces text_limit c.new-lead.result c.append.new.self c.append-2.new.self c.append-3.new.self c.append-4.new.self
    (frame_end c.args.text.now) c.args.name.now (codes ": {{{\n") c.args.piece.now
    c.new-lead.ensures first c.in_ok-append-2.ensures.ok c.in_ok-append-3.ensures.ok c.in_ok-append-4.ensures.ok
    ∙ ap (λ l. take text_limit (l ++ c.args.piece.now)) (append_assoc (frame_end c.args.text.now) c.args.name.now (codes ": {{{\n"))
