use Rattle.std.proofs.Common.{◌≡◌, ◌++◌}
use Rattle.std.specs.List.{filter}
use Rattle.suite_plan.specs.Sharing.{has_ids}
use Rattle.suite_plan.proofs.worker_shares.without_empty.Given as goal

abbrev pub invariant-loop-share : goal.invariant-loop-share
invariant-loop-share l = l.kept.items ++ filter has_ids l.share-iterator.rest.items ≡ filter has_ids l.fn.shares.items
