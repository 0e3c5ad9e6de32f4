use Rattle.v1_bridge.specs.Reading.{piece}
use Rattle.v1_bridge.proofs.RunLemmas.{so_far_push}
use Rattle.v1_bridge.proofs.FitLemmas.{fit_none}
use Rattle.v1_bridge.proofs.reader.V1Reader.long.Goals as goal

pub returns-clause-so_far : goal.returns-clause-so_far
returns-clause-so_far c inputs known = so_far_push inputs (piece c.args.piece.now c.args.last) c.new-events.result.items c.long_into.new.events.items c.new-events.ensures.items (c.in_ok-long_into.ensures.events inputs known)

pub returns-clause-fits : goal.returns-clause-fits
returns-clause-fits c little = c.in_ok-long_into.ensures.fits little (fit_none c.new-events.result.items c.new-events.ensures.items)
