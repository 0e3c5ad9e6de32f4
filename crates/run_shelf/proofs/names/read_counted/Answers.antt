use Rattle.run_shelf.proofs.NameLemmas.{only_partial}
use Rattle.run_shelf.proofs.names.read_counted.Goals as goal

pub returns-else-partial-clause-none : goal.returns-else-partial-clause-none
returns-else-partial-clause-none c = only_partial c.args.name.now c.args.old c.in_ok-number.number c.in_ok-number.partial c.in_ok-number.ensures.some c.if-partial.false c.if-number-old.true
