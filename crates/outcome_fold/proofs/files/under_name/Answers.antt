use Rattle.std.proofs.Common.{◌≡◌, ◌++◌, ◌∙◌, ap, take, codes}
use Rattle.outcome_fold.specs.Parts.{text_limit}
use Rattle.outcome_fold.specs.Files.{frame_end}
use Rattle.outcome_fold.proofs.TextLemmas.{four_pieces}
use Rattle.outcome_fold.proofs.files.under_name.Goals as goal

pub returns : goal.returns
returns c =
    let last : c.append-4.new.self ≡ take text_limit (c.append-3.new.self ++ frame_end c.args.others.now) =
    c.in_ok-append-4.ensures.ok ∙ ap (λ l. take text_limit (c.append-3.new.self ++ l)) c.end_behind.ensures in
    four_pieces text_limit c.new-text.result c.append.new.self c.append-2.new.self c.append-3.new.self c.append-4.new.self
    c.args.first.now (codes ": {{{\n") c.args.others.now (frame_end c.args.others.now)
    c.new-text.ensures c.in_ok-append.ensures.ok c.in_ok-append-2.ensures.ok c.in_ok-append-3.ensures.ok last
