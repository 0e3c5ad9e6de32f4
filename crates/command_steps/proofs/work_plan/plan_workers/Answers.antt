use Rattle.std.proofs.Common.{refl}
use Rattle.command_steps.specs.Selecting.{planned_in}
use Rattle.command_steps.proofs.StepLemmas.{part_done, part_fails, still_done, still_fails}
use Rattle.command_steps.proofs.PlanLemmas.{divides_as, gives_planned}
use Rattle.command_steps.proofs.SelectLemmas.{perhaps_as}
use Rattle.command_steps.proofs.work_plan.plan_workers.Goals as goal

pub returns-in_err-times-clause-step : goal.returns-in_err-times-clause-step
returns-in_err-times-clause-step g c = λ site spawner input out. part_fails planned_in (λ e. refl) c.from_residual.result _ c.from_residual.ensures.1 (perhaps_as c.wants_times.ensures c.in_err-times.ensures.step) refl

pub returns-in_err-shares-clause-step : goal.returns-in_err-shares-clause-step
returns-in_err-shares-clause-step g c = λ site spawner input out.
    part_done _ _ (perhaps_as c.wants_times.ensures c.in_ok-times.ensures.step)
    (still_fails planned_in (λ e. refl) c.from_residual-in_err-shares.result _ c.from_residual-in_err-shares.ensures.1 (record { shares = tt }) refl)

pub returns-in_err-name_ids-clause-step : goal.returns-in_err-name_ids-clause-step
returns-in_err-name_ids-clause-step g c = λ site spawner input out.
    part_done _ _ (perhaps_as c.wants_times.ensures c.in_ok-times.ensures.step)
    (still_done _ (divides_as _ _ _ _ _ c.requires.groups c.in_ok-shares.ensures.shares)
    (still_fails planned_in (λ e. refl) c.from_residual-in_err-name_ids.result _ c.from_residual-in_err-name_ids.ensures.1 c.in_err-name_ids.ensures refl))

pub returns-in_err-jobs-clause-step : goal.returns-in_err-jobs-clause-step
returns-in_err-jobs-clause-step g c = λ site spawner input out.
    part_done _ _ (perhaps_as c.wants_times.ensures c.in_ok-times.ensures.step)
    (still_done _ (divides_as _ _ _ _ _ c.requires.groups c.in_ok-shares.ensures.shares)
    (still_done tt c.in_ok-name_ids.ensures
    (still_fails planned_in (λ e. refl) c.from_residual-in_err-jobs.result _ c.from_residual-in_err-jobs.ensures.1 (record { jobs = tt; refused = c.in_err-jobs.ensures.refused }) refl)))

pub returns-in_err-hand_ids-clause-step : goal.returns-in_err-hand_ids-clause-step
returns-in_err-hand_ids-clause-step g c = λ site spawner input out.
    part_done _ _ (perhaps_as c.wants_times.ensures c.in_ok-times.ensures.step)
    (still_done _ (divides_as _ _ _ _ _ c.requires.groups c.in_ok-shares.ensures.shares)
    (still_done tt c.in_ok-name_ids.ensures
    (still_done c.in_ok-jobs.jobs.items (record { jobs = c.in_ok-jobs.ensures.jobs; refused = tt })
    (still_fails planned_in (λ e. refl) c.from_residual-in_err-hand_ids.result _ c.from_residual-in_err-hand_ids.ensures.1 c.in_err-hand_ids.ensures refl))))

pub returns-clause-step : goal.returns-clause-step
returns-clause-step g c = λ site spawner input out.
    part_done _ _ (perhaps_as c.wants_times.ensures c.in_ok-times.ensures.step)
    (still_done _ (divides_as _ _ _ _ _ c.requires.groups c.in_ok-shares.ensures.shares)
    (still_done tt c.in_ok-name_ids.ensures
    (still_done c.in_ok-jobs.jobs.items (record { jobs = c.in_ok-jobs.ensures.jobs; refused = tt })
    (still_done tt c.in_ok-hand_ids.ensures
    (gives_planned c.in_ok-jobs.jobs.items c.ids_of-asked.ensures)))))
