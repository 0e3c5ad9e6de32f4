use Rattle.filter_cli.proofs.StoredLemmas.{listed_stored, listed_status, counted_stored, counted_status}
use Rattle.filter_cli.proofs.laws.streams_as_events.Goals as goal

pub returns-clause-listed : goal.returns-clause-listed
returns-clause-listed c = listed_stored

pub returns-clause-listed_status : goal.returns-clause-listed_status
returns-clause-listed_status c = listed_status

pub returns-clause-counted : goal.returns-clause-counted
returns-clause-counted c = counted_stored

pub returns-clause-counted_status : goal.returns-clause-counted_status
returns-clause-counted_status c = counted_status
