use Rattle.v1_bridge.proofs.LawLemmas.{says_again}
use Rattle.v1_bridge.proofs.laws.rows_read_again.Goals as goal

pub returns : goal.returns
returns c = record { rows = says_again }
