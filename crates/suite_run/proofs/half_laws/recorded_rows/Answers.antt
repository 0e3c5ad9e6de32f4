use Rattle.suite_run.proofs.HalfLemmas.{says_the_same}
use Rattle.suite_run.proofs.half_laws.recorded_rows.Goals as goal

pub returns : goal.returns
returns c = says_the_same
