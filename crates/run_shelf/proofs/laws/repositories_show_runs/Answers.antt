use Rattle.run_shelf.proofs.ShowsLemmas.{shown, one_list, kinds_of_runs}
use Rattle.run_shelf.proofs.laws.repositories_show_runs.Goals as goal

pub returns-clause-shown : goal.returns-clause-shown
returns-clause-shown c files repository = shown files repository

pub returns-clause-one_list : goal.returns-clause-one_list
returns-clause-one_list c files runs others shows also = one_list files runs others shows also

pub returns-clause-kinds : goal.returns-clause-kinds
returns-clause-kinds c files runs kinds shows has = kinds_of_runs files runs kinds shows has
