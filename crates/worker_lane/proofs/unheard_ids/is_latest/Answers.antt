use Rattle.std.proofs.Common.{rules}
use Rattle.worker_lane.proofs.SoughtLemmas.{is_at_some}
use Rattle.worker_lane.proofs.unheard_ids.is_latest.Goals as goal

pub returns-in-Some : goal.returns-in-Some
returns-in-Some c e spells is = is_at_some c.args.latest.now c.in-Some.id e (search rules) ((c.has_id.ensures e spells).0 (search rules))
