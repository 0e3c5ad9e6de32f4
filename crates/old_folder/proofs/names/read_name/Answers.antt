use Rattle.old_folder.proofs.CountLemmas.{partial_named, partial_none}
use Rattle.old_folder.proofs.names.read_name.Goals as goal

pub returns-in-Some-clause-some : goal.returns-in-Some-clause-some
returns-in-Some-clause-some c = partial_named c.args.name.now c.in-Some.digits.now c.in-Some.ensures.cases.0 c.in-Some.ensures.cases.1 c.read_number.result c.read_number.ensures.some

pub returns-in-Some-clause-none : goal.returns-in-Some-clause-none
returns-in-Some-clause-none c = partial_none c.args.name.now c.in-Some.digits.now c.in-Some.ensures.cases.0 c.in-Some.ensures.cases.1 c.read_number.result c.read_number.ensures.none
