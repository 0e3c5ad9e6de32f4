use Rattle.std.proofs.Common.{◌≡◌, ◌+◌, ◌<◌, map, length}
use Rattle.partition_times.specs.Shares.{given_in_turn}
use Rattle.partition_times.proofs.shares.Shares.give_in_turn.Given as goal

abbrev pub invariant-loop-ids : goal.invariant-loop-ids
invariant-loop-ids l = record {
  some : 0 < length l.self.lists.items;
  count : l.turn + length l.ids-iterator.rest.items ≡ length l.fn.groups.items;
  given : given_in_turn l.self.lists.items l.turn (map (λ ids. ids.items) l.ids-iterator.rest.items) ≡ given_in_turn l.initial.self.lists.items 0 (map (λ ids. ids.items) l.fn.groups.items);
}
