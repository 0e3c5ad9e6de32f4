use Rattle.std.proofs.Common.{◌≡◌, ◌∙◌, ap, subst}
use Rattle.std.specs.Prelude.{IfOk}
use Rattle.outcome_fold.specs.Files.{text_shown, with_piece}
use Rattle.outcome_fold.specs.Folded.{files_in}
use Rattle.outcome_fold.proofs.TableLemmas.{lookup_in_map}
use Rattle.outcome_fold.proofs.OrderLemmas.{tests_total}
use Rattle.outcome_fold.proofs.fold.Fold.text_among_others.Goals as goal

pub returns-in-Some : goal.returns-in-Some
returns-in-Some c =
    subst (λ files. IfOk c.shown_with.result (λ text. text ≡ text_shown (with_piece files c.args.name.now c.args.piece.now)))
    (ap files_in (c.in-Some.ensures.value ∙ lookup_in_map tests_total _ _)) c.shown_with.ensures

pub returns-in-None : goal.returns-in-None
returns-in-None c =
    subst (λ files. IfOk c.shown_with-in-None.result (λ text. text ≡ text_shown (with_piece files c.args.name.now c.args.piece.now)))
    (c.new-files.ensures ∙ ap files_in (c.in-None.ensures.value ∙ lookup_in_map tests_total _ _)) c.shown_with-in-None.ensures
