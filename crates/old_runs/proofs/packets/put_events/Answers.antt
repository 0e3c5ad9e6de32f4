use Rattle.old_runs.proofs.PacketLemmas.{put_more, are_more}
use Rattle.old_runs.proofs.packets.put_events.Goals as goal

pub loop-event-preserved : goal.loop-event-preserved
loop-event-preserved c = record {
  packets = put_more c.args.events.now c.loop-event.event-index c.event-item.result c.args.packets.now.items c.loop-event.packets.items c.put_event.new.packets.items c.loop-event-test.true c.event-item.is c.loop-event.invariant.packets c.in_ok-put_event.ensures.packets;
  are = are_more c.args.events.now c.loop-event.event-index c.event-item.result c.loop-event-test.true c.event-item.is c.loop-event.invariant.are c.in_ok-put_event.ensures.event;
}
