use Rattle.tap_bridge.proofs.TextLemmas.{so_far_push}
use Rattle.tap_bridge.proofs.writer.TapWriter.row.Goals as goal

pub returns-then-not-has_line-clause-so_far : goal.returns-then-not-has_line-clause-so_far
returns-then-not-has_line-clause-so_far c rows = so_far_push rows c.args.row.now

pub returns-in_err-text-clause-so_far : goal.returns-in_err-text-clause-so_far
returns-in_err-text-clause-so_far c rows = so_far_push rows c.args.row.now

pub returns-in_err-extend_from_slice-clause-so_far : goal.returns-in_err-extend_from_slice-clause-so_far
returns-in_err-extend_from_slice-clause-so_far c rows = so_far_push rows c.args.row.now

pub returns-clause-so_far : goal.returns-clause-so_far
returns-clause-so_far c rows = so_far_push rows c.args.row.now
