use Rattle.std.proofs.Common.{◌≡◌, take}
use Rattle.worker_lane.specs.Lost.{named_ids}
use Rattle.worker_lane.proofs.unheard_ids.named.Given as goal

abbrev pub invariant-loop-id : goal.invariant-loop-id
invariant-loop-id l = l.list.items ≡ named_ids (take l.id-index l.ids)
