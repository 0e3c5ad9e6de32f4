use Rattle.std.proofs.Common.{None}
use Rattle.testr_commands.proofs.CallLemmas.{refused}
use Rattle.testr_commands.proofs.RunLemmas.{verdict_passed}
use Rattle.command_steps.specs.Steps.{goes_on}
use Rattle.command_steps.proofs.StepLemmas.{stopped, gives}
use Rattle.testr_commands.proofs.run.tell_and_find.Goals as goal

pub returns-in_err-verdict-clause-step : goal.returns-in_err-verdict-clause-step
returns-in_err-verdict-clause-step g c = λ site input rows sums. stopped _ c.from_residual.ensures.1 (c.in_err-verdict.ensures _ _ _ _ c.args.conf.now.filter_tags rows sums)

pub returns-in_err-find_where_asked-clause-step : goal.returns-in_err-find_where_asked-clause-step
returns-in_err-find_where_asked-clause-step g c = λ site input rows sums.
    goes_on _ _ (c.in_ok-verdict.ensures _ _ _ _ c.args.conf.now.filter_tags rows sums)
    (stopped _ c.from_residual-in_err-find_where_asked.ensures.1 (c.in_err-find_where_asked.ensures.step site input c.args.conf.now.filter_tags rows sums))

pub returns-clause-step : goal.returns-clause-step
returns-clause-step g c = λ site input rows sums.
    goes_on _ _ (c.in_ok-verdict.ensures _ _ _ _ c.args.conf.now.filter_tags rows sums)
    (goes_on _ _ (c.in_ok-find_where_asked.ensures.step site input c.args.conf.now.filter_tags rows sums)
    gives)

pub returns-in_err-verdict-clause-still : goal.returns-in_err-verdict-clause-still
returns-in_err-verdict-clause-still g c = λ rows sums small quiet. absurd (refused _ _ c.from_residual.ensures.1 small)

pub returns-in_err-find_where_asked-clause-still : goal.returns-in_err-find_where_asked-clause-still
returns-in_err-find_where_asked-clause-still g c = λ rows sums small quiet. absurd (refused _ _ c.from_residual-in_err-find_where_asked.ensures.1 small)

pub returns-clause-still : goal.returns-clause-still
returns-clause-still g c = λ rows sums small quiet.
    c.in_ok-find_where_asked.ensures.still c.args.conf.now.filter_tags rows sums (λ asked. verdict_passed _ _ _ rows _ _ c.in_ok-verdict.verdict (c.in_ok-verdict.ensures (g.H.Shelf.seen c.args.shelf.now) (record { told = None; faults = 0 }) (g.S.Spawner.seen c.args.spawner.now) (g.O.Sink.seen c.args.out.now) c.args.conf.now.filter_tags rows sums) (quiet asked))
