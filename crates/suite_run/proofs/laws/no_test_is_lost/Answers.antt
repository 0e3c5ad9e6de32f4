use Rattle.suite_run.proofs.NoneLostLemmas.{none_lost}
use Rattle.suite_run.proofs.laws.no_test_is_lost.Goals as goal

pub returns : goal.returns
returns c = none_lost
