use Rattle.std.proofs.Common.{refl}
use Rattle.testr_commands.proofs.ElsewhereLemmas.{counts_one, counts_run}
use Rattle.testr_commands.proofs.elsewhere.count_for.Goals as goal

pub returns-in-Run : goal.returns-in-Run
returns-in-Run g c = record {
  step = λ folder input out. counts_run c.args.command.now.verb c.args.command.now c.args.conf.now _ _ _ c.in-Run.is (c.count_workers.ensures.step folder input out);
  path = c.count_workers.ensures.path;
}

pub returns-in_default : goal.returns-in_default
returns-in_default g c = record {
  step = λ folder input out. counts_one c.args.command.now.verb c.args.command.now c.args.conf.now _ c.in_default.not-Run;
  path = refl;
}
