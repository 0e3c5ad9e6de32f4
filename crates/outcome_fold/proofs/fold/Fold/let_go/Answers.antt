use Rattle.std.proofs.Common.{sym, ◌∙◌}
use Rattle.outcome_fold.specs.Folded.{other_parts_in}
use Rattle.outcome_fold.proofs.HeldLemmas.{held_gone}
use Rattle.outcome_fold.proofs.fold.Fold.let_go.Goals as goal

pub returns-clause-rest : goal.returns-clause-rest
returns-clause-rest c = λ held is.
    held_gone c.args.self.now.held c.forget.new.self.held (other_parts_in c.args.self.now) (other_parts_in c.forget.new.self) c.in_ok-held.held held (sym c.in_ok-held.ensures.value) is (c.forget.ensures.held ∙ c.in_ok-held.ensures.after) c.forget.ensures.others
