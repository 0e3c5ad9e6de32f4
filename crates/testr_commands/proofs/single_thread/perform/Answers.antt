use Rattle.std.proofs.Common.{Some, sym, ap, refl, ◌∙◌}
use Rattle.testr_words.specs.Tasks.{ask, task_with, quiet_of}
use Rattle.testr_commands.proofs.Performing.{performs, refuses, not_done}
use Rattle.testr_commands.proofs.SparingLemmas.{none_spare, other_spare, failing_spare, silent_spare}
use Rattle.testr_commands.proofs.single_thread.perform.Goals as goal

pub returns-in-Init-clause-step : goal.returns-in-Init-clause-step
returns-in-Init-clause-step g c = λ folder site spawner input. performs _ _ _ (sym (ap (λ v. quiet_of (task_with folder v c.args.command.now)) c.in-Init.is)) (record { at = c.init.ensures; rest = refl })

pub returns-in-Last-clause-step : goal.returns-in-Last-clause-step
returns-in-Last-clause-step g c = λ folder site spawner input. performs _ _ _ (ap (λ q. Some (ask q)) c.last_question.ensures ∙ sym (ap (λ v. quiet_of (task_with folder v c.args.command.now)) c.in-Last.is)) (record { at = c.ask.ensures.step; rest = refl })

pub returns-in-Failing-clause-step : goal.returns-in-Failing-clause-step
returns-in-Failing-clause-step g c = λ folder site spawner input. performs _ _ _ (ap (λ q. Some (ask q)) c.failing_question.ensures ∙ sym (ap (λ v. quiet_of (task_with folder v c.args.command.now)) c.in-Failing.is)) (record { at = c.ask-in-Failing.ensures.step; rest = refl })

pub returns-in-Slowest-clause-step : goal.returns-in-Slowest-clause-step
returns-in-Slowest-clause-step g c = λ folder site spawner input. performs _ _ _ (sym (ap (λ v. quiet_of (task_with folder v c.args.command.now)) c.in-Slowest.is)) (record { at = c.ask-in-Slowest.ensures.step; rest = refl })

pub returns-in-Stats-clause-step : goal.returns-in-Stats-clause-step
returns-in-Stats-clause-step g c = λ folder site spawner input. performs _ _ _ (sym (ap (λ v. quiet_of (task_with folder v c.args.command.now)) c.in-Stats.is)) (record { at = c.ask-in-Stats.ensures.step; rest = refl })

pub returns-in-Upgrade-clause-step : goal.returns-in-Upgrade-clause-step
returns-in-Upgrade-clause-step g c = λ folder site spawner input. performs _ _ _ (sym (ap (λ v. quiet_of (task_with folder v c.args.command.now)) c.in-Upgrade.is)) (record { at = c.upgrade.ensures; rest = refl })

pub returns-in-Run-clause-step : goal.returns-in-Run-clause-step
returns-in-Run-clause-step g c = λ folder site spawner input. refuses _ (not_done folder c.args.command.now.verb c.args.command.now c.in-Run.is)

-- ---- how many calls there were

pub returns-in-Init-clause-spares : goal.returns-in-Init-clause-spares
returns-in-Init-clause-spares g c = λ folder. silent_spare folder c.args.command.now.verb c.args.command.now _ _ _ c.in-Init.is tt

pub returns-in-Upgrade-clause-spares : goal.returns-in-Upgrade-clause-spares
returns-in-Upgrade-clause-spares g c = λ folder. silent_spare folder c.args.command.now.verb c.args.command.now _ _ _ c.in-Upgrade.is tt

pub returns-in-Last-clause-spares : goal.returns-in-Last-clause-spares
returns-in-Last-clause-spares g c = λ folder. other_spare folder c.args.command.now.verb c.args.command.now _ _ _ c.in-Last.is tt c.ask.ensures.looks

pub returns-in-Slowest-clause-spares : goal.returns-in-Slowest-clause-spares
returns-in-Slowest-clause-spares g c = λ folder. other_spare folder c.args.command.now.verb c.args.command.now _ _ _ c.in-Slowest.is tt c.ask-in-Slowest.ensures.looks

pub returns-in-Stats-clause-spares : goal.returns-in-Stats-clause-spares
returns-in-Stats-clause-spares g c = λ folder. other_spare folder c.args.command.now.verb c.args.command.now _ _ _ c.in-Stats.is tt c.ask-in-Stats.ensures.looks

pub returns-in-Failing-clause-spares : goal.returns-in-Failing-clause-spares
returns-in-Failing-clause-spares g c = λ folder. failing_spare folder c.args.command.now.verb c.args.command.now _ _ _ _ c.in-Failing.is c.failing_question.ensures c.ask-in-Failing.ensures.spares c.ask-in-Failing.ensures.looks

pub returns-in-Run-clause-spares : goal.returns-in-Run-clause-spares
returns-in-Run-clause-spares g c = λ folder. none_spare _ _ _ _ refl
