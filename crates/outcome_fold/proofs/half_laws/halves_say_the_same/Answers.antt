use Rattle.outcome_fold.proofs.HalfLemmas.{halves_say_same}
use Rattle.outcome_fold.proofs.half_laws.halves_say_the_same.Goals as goal

pub returns : goal.returns
returns c = halves_say_same
