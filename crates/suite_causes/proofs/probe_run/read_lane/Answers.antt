use Rattle.std.proofs.Common.{Some, [], ◌∷◌, ap, ◌∙◌}
use Rattle.worker_lane.specs.Lanes.{rest}
use Rattle.worker_lane.specs.declared.lot.Ending.TheVariants.{Exit, Fault}
use Rattle.worker_lane.specs.declared.lot.Lot.TheVariants.{End}
use Rattle.suite_causes.proofs.ProbeLemmas.{heard_more, heard_all, gives_packet, gives_exit, gives_fault, all_have_packets, broken_by, tells_exit}
use Rattle.suite_causes.proofs.probe_run.read_lane.Goals as goal

pub returns-in-Some-End-Exit : goal.returns-in-Some-End-Exit
returns-in-Some-End-Exit g c = record {
  told = λ output bytes can is.
      let arm = c.in-Some-End-Exit in
      let gives = gives_exit c.step.result arm.field-0-0-0 (rest g.C.Child.seen c.loop.lane) (rest g.C.Child.seen c.step.new.self) (arm.is ∙ ap Some (arm.field-0-is ∙ ap End arm.field-0-0-is)) c.step.ensures.gives in
      let (ending, all) = heard_all (c.args.test.now ∷ []) output (rest g.C.Child.seen c.loop.lane) (rest g.C.Child.seen c.step.new.self) c.loop.summing (Exit arm.field-0-0-0) (c.loop.invariant.heard output is) gives in
      tells_exit c.args.test.now c.has_failed.result output c.loop.summing arm.field-0-0-0 ending (all (all_have_packets c.args.test.now c.requires.text output arm.field-0-0-0 bytes can ending)) c.has_failed.ensures.failed c.has_failed.ensures.fault;
}

pub returns-in-Some-End-Fault : goal.returns-in-Some-End-Fault
returns-in-Some-End-Fault g c = record {
  told = λ output bytes can is.
      let arm = c.in-Some-End-Fault in
      let gives = gives_fault c.step.result (rest g.C.Child.seen c.loop.lane) (rest g.C.Child.seen c.step.new.self) (arm.is ∙ ap Some (arm.field-0-is ∙ ap End arm.field-0-0-is)) c.step.ensures.gives in
      broken_by output.finish ((heard_all (c.args.test.now ∷ []) output (rest g.C.Child.seen c.loop.lane) (rest g.C.Child.seen c.step.new.self) c.loop.summing Fault (c.loop.invariant.heard output is) gives).0);
}

pub loop-preserved : goal.loop-preserved
loop-preserved g c =
    let arm = c.in-Some-Packet in
    let gives = gives_packet c.step.result arm.packet (rest g.C.Child.seen c.loop.lane) (rest g.C.Child.seen c.step.new.self) (arm.is ∙ ap Some arm.field-0-is) c.step.ensures.gives in
    record {
      number = c.step.ensures.keeps.number ∙ c.loop.invariant.number;
      heard = λ output is. heard_more (c.args.test.now ∷ []) output (rest g.C.Child.seen c.loop.lane) (rest g.C.Child.seen c.step.new.self) c.loop.summing c.hear.new.summing arm.packet (c.loop.invariant.heard output is) gives c.in-Ok.ensures;
    }
