use Rattle.std.proofs.Common.{◌∙◌, sym}
use Rattle.outcome_fold.proofs.SaidLemmas.{no_test, test_said}
use Rattle.outcome_fold.proofs.test_key.key_in.Goals as goal

pub returns-in_default : goal.returns-in_default
returns-in_default c = λ e s. no_test e (sym c.in_default.is ∙ c.in_ok-id.ensures e s)

pub returns : goal.returns
returns c = λ e s. test_said e _ _ (sym c.in-Some.is ∙ c.in_ok-id.ensures e s) (c.in_ok-route.ensures e s)
