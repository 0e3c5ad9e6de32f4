use Rattle.std.proofs.Common.{◌≡◌, ◌++◌, ◌<◌, map, length}
use Rattle.partition_times.specs.Shares.{Times, given_to_least}
use Rattle.partition_times.specs.Loads.{IsQueue}
use Rattle.partition_times.specs.Ranked.{AreKnown, ids_by_group}
use Rattle.partition_times.proofs.shares.Shares.give_timed.Given as goal

abbrev pub invariant-loop-rank : goal.invariant-loop-rank
invariant-loop-rank l = record {
  parts : l.yielded ++ l.rank-iterator ≡ l.fn.groups.entries;
  some : 0 < length l.self.lists.items;
  queue : (times : Times) × IsQueue times l.self.lists.items l.self.queue.keys × AreKnown times l.fn.groups;
  given : (times : Times) → IsQueue times l.initial.self.lists.items l.initial.self.queue.keys → AreKnown times l.fn.groups
      → IsQueue times l.self.lists.items l.self.queue.keys
      × (given_to_least times l.self.lists.items (map (λ e. e.1.items) l.rank-iterator) ≡ given_to_least times l.initial.self.lists.items (ids_by_group l.fn.groups));
}
