use Rattle.drawn_lanes.proofs.RunLemmas.{packets_drawn, state_drawn}
use Rattle.drawn_lanes.proofs.lanes.lane_output.Goals as goal

pub loop-test-preserved : goal.loop-test-preserved
loop-test-preserved c =
    let next = c.next-number in
    let before = c.loop-test.invariant in
    record {
      out = packets_drawn c.args.lane c.loop-test.test c.args.draws.now c.loop-test.draws next.new.self next.result c.loop-test.out.items c.put_test.new.out.items before.out before.state next.ensures.state next.ensures.number c.in_ok-put_test.ensures;
      state = state_drawn c.loop-test.test c.args.draws.now c.loop-test.draws next.new.self before.state next.ensures.state;
    }
