use Rattle.filter_cli.proofs.TapTextLemmas.{lines_whole}
use Rattle.filter_cli.proofs.V1TextLemmas.{v1_whole}
use Rattle.filter_cli.proofs.laws.lines_of_streams.Goals as goal

pub returns-clause-lines : goal.returns-clause-lines
returns-clause-lines c = lines_whole

pub returns-clause-version_one : goal.returns-clause-version_one
returns-clause-version_one c = v1_whole
