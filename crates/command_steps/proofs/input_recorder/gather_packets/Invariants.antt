use Rattle.std.proofs.Common.{◌<◌, ◌≤◌, [], length}
use Rattle.packet_codec.specs.Packets.{ArePackets}
use Rattle.worker_lane.specs.Scribing.{GivesPackets, most_left}
use Rattle.command_steps.specs.Recording.{most_gathered}
use Rattle.command_steps.proofs.input_recorder.gather_packets.Given as goal

-- the packets gathered so far were given in turn, and are few
abbrev pub invariant-loop-packets : goal.invariant-loop-packets
invariant-loop-packets l = record {
  given : GivesPackets l.fn.scribe [] l.scribe l.packets.items;
  packets : ArePackets l.packets.items;
  left : most_left l.scribe ≤ most_left l.fn.scribe;
  few : length l.packets.items < most_gathered;
}

abbrev pub decreases-loop-packets : goal.decreases-loop-packets
decreases-loop-packets l = most_left l.scribe
