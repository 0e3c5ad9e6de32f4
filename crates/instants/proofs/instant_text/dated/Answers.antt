use Rattle.instants.proofs.DayLemmas.{date_of_seconds}
use Rattle.instants.proofs.instant_text.dated.Goals as goal

pub returns : goal.returns
returns c = date_of_seconds c.args.seconds c.date_time.result c.requires c.date_time.ensures
