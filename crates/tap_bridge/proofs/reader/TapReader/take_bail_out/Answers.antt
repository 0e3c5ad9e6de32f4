use Rattle.std.proofs.Common.{ap}
use Rattle.tap_bridge.specs.declared.reader.TapReader.{TapReader}
use Rattle.tap_bridge.proofs.ReadLemmas.{knows_bail_out}
use Rattle.tap_bridge.proofs.reader.TapReader.take_bail_out.Goals as goal

pub returns-clause-read : goal.returns-clause-read
returns-clause-read c before known =
    let rest = c.in_ok-give_waiting.ensures.rest in
    knows_bail_out c.args.self.now c.give_waiting.new.self before c.args.id.now (ap (λ (r : TapReader). r.next) rest) (ap (λ (r : TapReader). r.tests) rest) (ap (λ (r : TapReader). r.waiting) rest) known
