use Rattle.std.proofs.Common.{◌≡◌, ◌∙◌, sym, ap, subst}
use Rattle.std.specs.Prelude.{IfOk}
use Rattle.outcome_fold.specs.Files.{text_shown, with_piece}
use Rattle.outcome_fold.specs.Folded.{other_parts_in, files_in}
use Rattle.outcome_fold.proofs.HeldLemmas.{held_here, held_elsewhere}
use Rattle.outcome_fold.proofs.fold.Fold.text_with.Goals as goal

pub returns-then-is_same_test : goal.returns-then-is_same_test
returns-then-is_same_test c =
    let found = held_here c.args.self.now.held (other_parts_in c.args.self.now) c.in-Some.held c.args.key.now c.in-Some.is (sym c.is_same_test.ensures ∙ c.if-is_same_test.true) in
    subst (λ files. IfOk c.shown_with.result (λ text. text ≡ text_shown (with_piece files c.args.name.now c.args.piece.now))) (sym (ap files_in found)) c.shown_with.ensures

pub returns-else-is_same_test : goal.returns-else-is_same_test
returns-else-is_same_test c =
    let found = held_elsewhere c.args.self.now.held (other_parts_in c.args.self.now) c.in-Some.held c.args.key.now c.in-Some.is (sym c.is_same_test.ensures ∙ c.if-is_same_test.false) in
    subst (λ files. IfOk c.text_among_others.result (λ text. text ≡ text_shown (with_piece files c.args.name.now c.args.piece.now))) (sym (ap files_in found)) c.text_among_others.ensures
