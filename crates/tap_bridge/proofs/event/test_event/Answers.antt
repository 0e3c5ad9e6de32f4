use Rattle.std.proofs.Common.{ap, length, arith}
use Rattle.tap_bridge.proofs.SizeLemmas.{test_fits}
use Rattle.tap_bridge.proofs.event.test_event.Goals as goal

pub returns-clause-fits : goal.returns-clause-fits
returns-clause-fits c = test_fits _ c.args.status _ c.args.file c.in_ok-mime_of.ensures (omega (arith, ap length c.into_text-id.ensures.text, c.into_text-id.ensures.short)) c.requires
