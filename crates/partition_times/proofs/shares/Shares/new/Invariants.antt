use Rattle.std.proofs.Common.{◌≡◌, [], replicate}
use Rattle.partition_times.specs.Loads.{IsQueue}
use Rattle.partition_times.proofs.shares.Shares.new.Given as goal

abbrev pub invariant-loop-index : goal.invariant-loop-index
invariant-loop-index l = record {
  lists : l.lists.items ≡ replicate l.index [];
  queue : (times : _) → IsQueue times (replicate l.index []) l.queue.keys;
}
