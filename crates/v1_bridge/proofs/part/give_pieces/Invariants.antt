use Rattle.std.proofs.Common.{◌≡◌, ◌++◌, map}
use Rattle.std.specs.List.{range_with_len}
use Rattle.v1_bridge.specs.Events.{piece_event, piece_at}
use Rattle.v1_bridge.proofs.part.give_pieces.Given as goal

abbrev pub invariant-loop-number : goal.invariant-loop-number
invariant-loop-number l = l.events.items ≡ l.fn.events.items ++ map (piece_event l.id l.part) (map (piece_at l.bytes) (range_with_len 0 l.number))
