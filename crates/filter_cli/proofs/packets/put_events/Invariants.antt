use Rattle.std.proofs.Common.{◌≡◌, ◌++◌, take}
use Rattle.packet_codec.specs.Canonical.{packets_of}
use Rattle.filter_cli.proofs.packets.put_events.Given as goal

abbrev pub invariant-loop-event : goal.invariant-loop-event
invariant-loop-event l = l.text.items ≡ l.fn.text.items ++ packets_of (take l.event-index l.events)
