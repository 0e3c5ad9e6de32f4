use Rattle.command_steps.proofs.HearLemmas.{stops_then, stops_behind}
use Rattle.command_steps.proofs.Resting.{same_then}
use Rattle.command_steps.proofs.RecordLemmas.{writes_then}
use Rattle.command_steps.proofs.input_recorder.write_packets.Goals as goal

pub loop-more-preserved : goal.loop-more-preserved
loop-more-preserved g c =
    let next = c.in_ok-write_gathered.ensures in
    record {
      written = writes_then g.L.Listener.heard _ _ _ _ _ _ _ _ _ _ c.loop-more.invariant.written c.gather_packets.ensures.given next.are_bytes next.written next.heard next.count;
      empty = next.empty;
      draft = next.draft;
      rests = same_then _ _ _ c.loop-more.invariant.rests next.rests;
    }

pub returns-then-not-more-clause-written : goal.returns-then-not-more-clause-written
returns-then-not-more-clause-written g c =
    let next = c.in_ok-write_gathered.ensures in
    writes_then g.L.Listener.heard _ _ _ _ _ _ _ _ _ _ c.loop-more.invariant.written c.gather_packets.ensures.given next.are_bytes next.written next.heard next.count

pub returns-in_err-more-clause-stops : goal.returns-in_err-more-clause-stops
returns-in_err-more-clause-stops g c = stops_behind g.L.Listener.heard g.L.Listener.keeps _ _ _ c.loop-more.invariant.written.was_heard

pub returns-in_err-write_gathered-clause-stops : goal.returns-in_err-write_gathered-clause-stops
returns-in_err-write_gathered-clause-stops g c = stops_then g.L.Listener.heard g.L.Listener.keeps _ _ _ _ c.loop-more.invariant.written.was_heard c.write_gathered.ensures.stops

pub returns-then-not-more-clause-stops : goal.returns-then-not-more-clause-stops
returns-then-not-more-clause-stops g c = stops_then g.L.Listener.heard g.L.Listener.keeps _ _ _ _ c.loop-more.invariant.written.was_heard c.write_gathered.ensures.stops
