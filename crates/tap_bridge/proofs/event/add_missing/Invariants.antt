use Rattle.std.proofs.Common.{◌≡◌, ◌-◌, ◌++◌, ◌≤◌, map, All}
use Rattle.std.specs.List.{range_with_len}
use Rattle.packet_codec.specs.Canonical.{Fits}
use Rattle.tap_bridge.specs.Events.{missing_event}
use Rattle.tap_bridge.proofs.event.add_missing.Given as goal

abbrev pub invariant-loop-number : goal.invariant-loop-number
invariant-loop-number l = record {
  low : l.fn.first ≤ l.number;
  high : l.number - l.fn.first ≤ l.fn.behind - l.fn.first;
  given : l.events.items ≡ l.fn.events.items ++ map missing_event (range_with_len l.fn.first (l.number - l.fn.first));
  fits : All Fits l.fn.events.items → All Fits l.events.items;
}
