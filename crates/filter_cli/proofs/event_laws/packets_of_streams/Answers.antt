use Rattle.filter_cli.proofs.EventTextLemmas.{let_through_whole, tagged_whole}
use Rattle.filter_cli.proofs.event_laws.packets_of_streams.Goals as goal

pub returns-clause-let_through : goal.returns-clause-let_through
returns-clause-let_through c = let_through_whole

pub returns-clause-tagged : goal.returns-clause-tagged
returns-clause-tagged c = tagged_whole
