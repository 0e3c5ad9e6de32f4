use Rattle.testr_commands.proofs.SpokenLemmas.{told_behind}
use Rattle.testr_commands.proofs.laws.refusals_stand_behind_lines.Goals as goal

pub returns : goal.returns
returns c = record { behind = told_behind }
