use Rattle.std.proofs.Common.{sym, ◌∙◌}
use Rattle.outcome_fold.specs.Folded.{other_parts_in}
use Rattle.outcome_fold.proofs.EndedLemmas.{no_end}
use Rattle.outcome_fold.proofs.HeldLemmas.{held_goes_on, held_ends, held_gives, never_gone}
use Rattle.outcome_fold.proofs.fold.Fold.hear_held.Goals as goal

pub returns-in_default-clause-part : goal.returns-in_default-clause-part
returns-in_default-clause-part c = λ seen e held s has is test ends. no_end seen e held.key (sym test) (sym c.in_default.is ∙ ends)

pub returns-in_default-clause-ok : goal.returns-in_default-clause-ok
returns-in_default-clause-ok c = λ seen e held s has is test ends.
    held_goes_on seen e _ _ held has is test _ _ (sym c.in_default.is ∙ ends) (c.in_ok-extend_held.ensures.ok e held s is) c.in_ok-extend_held.ensures.others

pub returns-in_default-let_go-clause-part : goal.returns-in_default-let_go-clause-part
returns-in_default-let_go-clause-part c = λ seen e held s has is test ends.
    absurd (never_gone _ held e c.in_default-let_go.ensures.held (c.in_ok-extend_held.ensures.ok e held s is))

pub returns-in_default-let_go-clause-ok : goal.returns-in_default-let_go-clause-ok
returns-in_default-let_go-clause-ok c = λ seen e held s has is test ends.
    absurd (never_gone _ held e c.in_default-let_go.ensures.held (c.in_ok-extend_held.ensures.ok e held s is))

pub returns-clause-part : goal.returns-clause-part
returns-clause-part c = λ seen e held s has is test ends.
    held_gives seen e c.args.self.now.held (other_parts_in c.args.self.now) held has is test c.in-Some.ended c.in-Some-let_go.field-0 _ (sym c.in-Some.is ∙ ends)
    (c.in-Some-let_go.ensures.held ∙ c.in_ok-extend_held.ensures.ok e held s is) (c.instant_in-end.ensures e s)

pub returns-clause-ok : goal.returns-clause-ok
returns-clause-ok c = λ seen e held s has is test ends.
    let more = c.in_ok-extend_held.ensures.ok e held s is in
    held_ends seen e c.args.self.now.held (other_parts_in c.args.self.now) held has is test c.in-Some.ended _ _ _ (sym c.in-Some.is ∙ ends) more c.in_ok-extend_held.ensures.others (c.in-Some-let_go.ensures.rest _ more)
