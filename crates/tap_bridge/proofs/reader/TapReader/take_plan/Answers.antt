use Rattle.std.proofs.Common.{ap, refl}
use Rattle.tap_bridge.specs.declared.reader.TapReader.{TapReader}
use Rattle.tap_bridge.proofs.ReadLemmas.{knows_plan}
use Rattle.tap_bridge.proofs.reader.TapReader.take_plan.Goals as goal

pub returns-clause-read : goal.returns-clause-read
returns-clause-read c before known =
    let rest = c.in_ok-give_waiting.ensures.rest in
    knows_plan c.args.self.now _ before c.args.plan (ap (λ (r : TapReader). r.next) rest) refl (ap (λ (r : TapReader). r.waiting) rest) known
