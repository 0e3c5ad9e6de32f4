use Rattle.std.proofs.Common.{◌∙◌, sym}
use Rattle.std.specs.FinMap as map
use Rattle.std.proofs.lemmas.Result.{MatchResult-weaker}
use Rattle.outcome_fold.specs.Files.{text_shown, with_piece}
use Rattle.outcome_fold.specs.Folded.{open_in, files_in}
use Rattle.outcome_fold.proofs.EndedLemmas.{text_gives}
use Rattle.outcome_fold.proofs.fold.Fold.failure_by.Goals as goal

pub returns-in-Some : goal.returns-in-Some
returns-in-Some c = λ seen fails has.
    let kept = files_in (map.get (open_in c.args.self.now) c.in-Some.key) in
    MatchResult-weaker c.text_with.result c.text_with.ensures
    (λ text is. text_gives seen c.args.event.now (open_in c.args.self.now) c.in-Some.key text has (sym c.in-Some.is ∙ c.in_ok-key.ensures) fails
    (is ∙ (λ i. text_shown (with_piece kept (c.file_name_in.ensures i) (c.text_in.ensures i)))))
    (λ _ _. tt)
