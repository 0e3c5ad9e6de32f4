use Rattle.std.proofs.Common.{rules}
use Rattle.worker_lane.proofs.EndingLemmas.{ending_packet}
use Rattle.worker_lane.proofs.scribe.Scribe.ending.Goals as goal

pub returns-clause-under : goal.returns-clause-under
returns-clause-under c = ending_packet c.in_ok-event.event c.args.self.now.lane c.in-Some.text _ (search rules) c.in_ok-event.ensures.is_event c.in_ok-event.ensures.fits (search rules)
