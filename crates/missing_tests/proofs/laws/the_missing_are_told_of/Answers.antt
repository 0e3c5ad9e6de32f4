use Rattle.missing_tests.proofs.MissingLemmas.{among_missing}
use Rattle.missing_tests.proofs.laws.the_missing_are_told_of.Goals as goal

pub returns : goal.returns
returns c = among_missing
