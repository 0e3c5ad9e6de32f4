use Rattle.v1_bridge.specs.Reading.{line}
use Rattle.v1_bridge.proofs.RunLemmas.{so_far_push}
use Rattle.v1_bridge.proofs.FitLemmas.{fit_none}
use Rattle.v1_bridge.proofs.reader.V1Reader.line.Goals as goal

pub returns-clause-so_far : goal.returns-clause-so_far
returns-clause-so_far c inputs known = so_far_push inputs (line c.args.line.now) c.new-events.result.items c.line_into.new.events.items c.new-events.ensures.items (c.in_ok-line_into.ensures.events inputs known)

pub returns-clause-fits : goal.returns-clause-fits
returns-clause-fits c little = c.in_ok-line_into.ensures.fits little (fit_none c.new-events.result.items c.new-events.ensures.items)
