use Rattle.std.proofs.Common.{rules}
use Rattle.tap_bridge.proofs.SizeLemmas.{output_fits}
use Rattle.tap_bridge.proofs.event.output_event.Goals as goal

pub returns-clause-fits : goal.returns-clause-fits
returns-clause-fits c = output_fits c.args.line.now c.from_vec.result c.in_ok-event.event c.in_ok-event.ensures (search rules) c.requires
