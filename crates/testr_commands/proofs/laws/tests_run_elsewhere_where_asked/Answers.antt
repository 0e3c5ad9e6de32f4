use Rattle.testr_commands.proofs.ElsewhereLemmas.{here_alone, there_alone}
use Rattle.testr_commands.proofs.laws.tests_run_elsewhere_where_asked.Goals as goal

pub returns : goal.returns
returns c = record { here = here_alone; there = there_alone }
