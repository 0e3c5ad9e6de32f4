use Rattle.std.proofs.Common.{◌≡◌, ◌++◌, All, take}
use Rattle.std.specs.List.{flat_map}
use Rattle.packet_codec.specs.Canonical.{canonical, IsEvent}
use Rattle.old_runs.proofs.packets.put_events.Given as goal

-- the packets of the events so far were appended
abbrev pub invariant-loop-event : goal.invariant-loop-event
invariant-loop-event l = record {
  packets : l.packets.items ≡ l.fn.packets.items ++ flat_map canonical (take l.event-index l.events);
  are : All IsEvent (take l.event-index l.events);
}
