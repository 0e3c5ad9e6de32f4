use Rattle.std.proofs.Common.{rules}
use Rattle.worker_lane.proofs.LostEventLemmas.{lost_packet}
use Rattle.worker_lane.proofs.scribe.Scribe.lost.Goals as goal

pub returns : goal.returns
returns c = lost_packet c.in_ok-event.event c.args.self.now.lane c.args.id _ (search rules) c.in_ok-event.ensures.is_event c.in_ok-event.ensures.fits (search rules)
