use Rattle.std.proofs.Common.{◌≤◌, ◌++◌, ◌∙◌, ap, sym, take, arith}
use Rattle.outcome_fold.specs.Parts.{text_limit}
use Rattle.outcome_fold.specs.Files.{frame_head, frame_end}
use Rattle.outcome_fold.proofs.TextLemmas.{take_behind, four_tied}
use Rattle.outcome_fold.proofs.files.KeptFiles.begin_later.Goals as goal

pub returns-clause-others : goal.returns-clause-others
returns-clause-others c =
    let others = c.args.self.now.others in
    let head = frame_head c.args.name.now in
    let piece = c.args.piece.now in
    let all : text_limit ≤ text_limit = omega arith in
    c.in_ok-append.ensures.ok
    ∙ ap (λ l. take text_limit (others ++ l)) (c.bytes-2.ensures ∙ c.in_ok-lead.ensures ∙ ap (λ text. take text_limit (frame_end text ++ head ++ piece)) c.bytes.ensures)
    ∙ take_behind text_limit text_limit others (frame_end others ++ head ++ piece) all
    ∙ ap (take text_limit) (sym (four_tied others (frame_end others) head piece))
