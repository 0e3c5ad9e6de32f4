use Rattle.old_copies.proofs.NameLemmas.{run_below, no_run_below}
use Rattle.old_copies.proofs.names.is_run_below.Goals as goal

pub returns-in-Some : goal.returns-in-Some
returns-in-Some c = run_below c.args.name.now c.args.count c.in-Some.number c.requires.few c.in-Some.ensures.some

pub returns-in-None : goal.returns-in-None
returns-in-None c = no_run_below c.args.name.now c.args.count c.requires.few c.in-None.ensures.none
