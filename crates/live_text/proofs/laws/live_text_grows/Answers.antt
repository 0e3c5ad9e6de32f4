use Rattle.live_text.proofs.LiveLemmas.{grows, steps, counts}
use Rattle.live_text.proofs.laws.live_text_grows.Goals as goal

pub returns-clause-grows : goal.returns-clause-grows
returns-clause-grows c = grows

pub returns-clause-steps : goal.returns-clause-steps
returns-clause-steps c = steps

pub returns-clause-counts : goal.returns-clause-counts
returns-clause-counts c = counts
