use Rattle.std.proofs.Common.{◌∙◌, None, ap, sym, refl}
use Rattle.outcome_fold.specs.declared.part.Said.{Said}
use Rattle.outcome_fold.specs.Folded.{other_parts_in, extended_by}
use Rattle.outcome_fold.proofs.OpenLemmas.{closed_begins}
use Rattle.outcome_fold.proofs.fold.Fold.go_on.Goals as goal

pub returns-clause-ok : goal.returns-clause-ok
returns-clause-ok c =
    closed_begins (other_parts_in c.args.self.now) (other_parts_in c.extend.new.self) _ c.args.key c.args.said c.in_ok-part.part (sym c.if-branch.false ∙ c.in_ok-extend.ensures.was_open) c.in_ok-extend.ensures.ok
    refl (c.in_ok-part.ensures ∙ ap (λ (said : Said). extended_by None said) (c.in_ok-extend.ensures.kept c.if-branch.false))
