use Rattle.std.proofs.Common.{◌≡◌, ◌∙◌, sym, subst}
use Rattle.std.specs.Prelude.{IfOk}
use Rattle.outcome_fold.proofs.FileLemmas.{shown_some, shown_none}
use Rattle.outcome_fold.proofs.files.KeptFiles.shown.Goals as goal

pub returns-in-Some : goal.returns-in-Some
returns-in-Some c =
    subst (λ shown. IfOk c.shown_from.result (λ text. text ≡ shown))
    (sym (shown_some c.args.self.now c.in-Some.first c.in-Some.is)) c.shown_from.ensures

pub returns-in-None : goal.returns-in-None
returns-in-None c =
    subst (λ shown. IfOk c.new.result (λ text. text ≡ shown))
    (c.bytes.ensures ∙ sym (shown_none c.args.self.now c.in-None.is)) c.new.ensures
