use Rattle.std.proofs.Common.{arith}
use Rattle.live_text.proofs.LiveLemmas.{name_until, name_whole}
use Rattle.live_text.proofs.live.lane_name.Goals as goal

pub returns-in-Some : goal.returns-in-Some
returns-in-Some c = name_until c.args.route.now c.in-Some.end c.in-Some.ensures.0.high c.in-Some.ensures.1 (λ j less. c.in-Some.ensures.0.before j (omega arith) less)

pub returns-in-None : goal.returns-in-None
returns-in-None c = name_whole c.args.route.now (λ j less. c.in-None.ensures j (omega arith) less)
