use Rattle.filter_cli.proofs.LongLemmas.{long_refused}
use Rattle.filter_cli.proofs.laws.too_long_is_refused.Goals as goal

pub returns : goal.returns
returns c = record { refused = long_refused }
