use Rattle.filter_cli.proofs.EventLemmas.{foreign_more}
use Rattle.filter_cli.proofs.live_trace.TraceFilterNoteFilter.take_foreign.Goals as goal

pub returns-clause-ok : goal.returns-clause-ok
returns-clause-ok c notes has = rw (foreign_more notes _) has
