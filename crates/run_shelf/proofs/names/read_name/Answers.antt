use Rattle.run_shelf.proofs.NameLemmas.{spells_partial, spells_none}
use Rattle.run_shelf.proofs.names.read_name.Goals as goal

pub returns-in_err-read_number-in-Some-clause-none : goal.returns-in_err-read_number-in-Some-clause-none
returns-in_err-read_number-in-Some-clause-none c =
    rw c.from_residual.ensures (spells_none c.args.name.now c.in-Some.digits.now c.in-Some.ensures.cases.0 c.in-Some.ensures.cases.1 c.in_err-read_number-in-Some.ensures.none)

pub returns-in_ok-read_number-in-Some-clause-some : goal.returns-in_ok-read_number-in-Some-clause-some
returns-in_ok-read_number-in-Some-clause-some c =
    spells_partial c.args.name.now c.in-Some.digits.now c.in-Some.ensures.cases.0 c.in-Some.ensures.cases.1 c.in_ok-read_number-in-Some.field-0 c.in_ok-read_number-in-Some.ensures.some
