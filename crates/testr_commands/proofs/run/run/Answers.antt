use Rattle.std.proofs.Common.{refl, ap, ◌∙◌, arith}
use Rattle.testr_words.specs.Suites.{wanted_of}
use Rattle.testr_commands.specs.Endings.{asks_tests}
use Rattle.command_steps.specs.Steps.{goes_on, stops}
use Rattle.command_steps.specs.declared.answer.Refusal.TheVariants.{Report}
use Rattle.testr_commands.proofs.EndLemmas.{leaves_run}
use Rattle.testr_commands.proofs.CallLemmas.{early, refused, told_refused, refused_so, asks_then, asked_first, refused_later, stored_later, finds_other}
use Rattle.command_steps.proofs.StepLemmas.{stopped, part_done, part_stops, still_done, still_stops}
use Rattle.testr_commands.proofs.RunLemmas.{works_as, finds_as, known_so, told_still}
use Rattle.testr_commands.proofs.SaidLemmas.{said_early, said_refused, said_done, tells_still}
use Rattle.testr_commands.proofs.run.run.Goals as goal

pub invariant_of-stored : goal.invariant_of-stored
invariant_of-stored g c = record { known = known_so _ _ _ _ c.runs-number.ensures c.in_ok-kept.ensures.found }

pub returns-in_err-found-clause-step : goal.returns-in_err-found-clause-step
returns-in_err-found-clause-step g c = λ input. part_stops _ c.from_residual.ensures.1 c.in_err-found.ensures.step refl

pub returns-in_err-check_next_number-clause-step : goal.returns-in_err-check_next_number-clause-step
returns-in_err-check_next_number-clause-step g c = λ input.
    part_done _ _ c.in_ok-found.ensures.step
    (still_stops _ c.from_residual-in_err-check_next_number.ensures.1 c.in_err-check_next_number.ensures refl)

pub returns-in_err-asked-clause-step : goal.returns-in_err-asked-clause-step
returns-in_err-asked-clause-step g c = λ input.
    part_done _ _ c.in_ok-found.ensures.step
    (still_done _ c.in_ok-check_next_number.ensures
    (still_stops _ c.from_residual-in_err-asked.ensures.1 c.in_err-asked.ensures.compiled refl))

pub returns-in_err-selected-clause-step : goal.returns-in_err-selected-clause-step
returns-in_err-selected-clause-step g c = λ input.
    part_done _ _ c.in_ok-found.ensures.step
    (still_done _ c.in_ok-check_next_number.ensures
    (still_done c.in_ok-asked.asked.compiled c.in_ok-asked.ensures.compiled
    (stopped _ c.from_residual-in_err-selected.ensures.1 (c.in_err-selected.ensures.step _ _))))

pub returns-in_err-plan-clause-step : goal.returns-in_err-plan-clause-step
returns-in_err-plan-clause-step g c = λ input.
    part_done _ _ c.in_ok-found.ensures.step
    (still_done _ c.in_ok-check_next_number.ensures
    (still_done c.in_ok-asked.asked.compiled c.in_ok-asked.ensures.compiled
    (goes_on c.in_ok-selected.selected _ (c.in_ok-selected.ensures.step _ _)
    (stopped _ c.from_residual-in_err-plan.ensures.1 (c.in_err-plan.ensures.step _ _ _ _)))))

pub returns-in_err-kept-clause-step : goal.returns-in_err-kept-clause-step
returns-in_err-kept-clause-step g c = λ input.
    part_done _ _ c.in_ok-found.ensures.step
    (still_done _ c.in_ok-check_next_number.ensures
    (still_done c.in_ok-asked.asked.compiled c.in_ok-asked.ensures.compiled
    (goes_on c.in_ok-selected.selected _ (c.in_ok-selected.ensures.step _ _)
    (goes_on (record { jobs = c.in_ok-plan.plan.jobs.items; asked = c.in_ok-plan.plan.asked.items }) _ (c.in_ok-plan.ensures.step _ _ _ _)
    (stopped _ c.from_residual-in_err-kept.ensures.1 (works_as c.in_ok-asked.ensures.partial c.deref.ensures.value c.deref-2.ensures.value (c.in_err-kept.ensures.step.holds _ _ _)))))))

pub returns-in-Err-clause-step : goal.returns-in-Err-clause-step
returns-in-Err-clause-step g c =
    let sums = c.in_ok-kept.ensures.step in
    λ input.
    part_done _ _ c.in_ok-found.ensures.step
    (still_done _ c.in_ok-check_next_number.ensures
    (still_done c.in_ok-asked.asked.compiled c.in_ok-asked.ensures.compiled
    (goes_on c.in_ok-selected.selected _ (c.in_ok-selected.ensures.step _ _)
    (goes_on (record { jobs = c.in_ok-plan.plan.jobs.items; asked = c.in_ok-plan.plan.asked.items }) _ (c.in_ok-plan.ensures.step _ _ _ _)
    (goes_on sums.rows _ (works_as c.in_ok-asked.ensures.partial c.deref.ensures.value c.deref-2.ensures.value (sums.holds _ _ _))
    (stops (Report c.in-Err.fault) refl (stops c.in-Err.fault refl (record { says = record { told = tt }; same = refl }))))))))

pub returns-clause-step : goal.returns-clause-step
returns-clause-step g c =
    let sums = c.in_ok-kept.ensures.step in
    λ input.
    part_done _ _ c.in_ok-found.ensures.step
    (still_done _ c.in_ok-check_next_number.ensures
    (still_done c.in_ok-asked.asked.compiled c.in_ok-asked.ensures.compiled
    (goes_on c.in_ok-selected.selected _ (c.in_ok-selected.ensures.step _ _)
    (goes_on (record { jobs = c.in_ok-plan.plan.jobs.items; asked = c.in_ok-plan.plan.asked.items }) _ (c.in_ok-plan.ensures.step _ _ _ _)
    (goes_on sums.rows _ (works_as c.in_ok-asked.ensures.partial c.deref.ensures.value c.deref-2.ensures.value (sums.holds _ _ _))
    (finds_as _ _ _ c.runs-number.ensures (c.tell_and_find-answer.ensures.step _ input sums.rows (rw c.in_ok-asked.ensures.filter_tags at sums.sums))))))))

-- ---- how many calls there were

pub returns-in_err-found-clause-calls : goal.returns-in_err-found-clause-calls
returns-in_err-found-clause-calls g c = early _ _ _ _ _ _ _ (refused _ _ c.from_residual.ensures.1) (omega (arith, c.in_err-found.ensures.time))

pub returns-in_err-check_next_number-clause-calls : goal.returns-in_err-check_next_number-clause-calls
returns-in_err-check_next_number-clause-calls g c = early _ _ _ _ _ _ _ (refused _ _ c.from_residual-in_err-check_next_number.ensures.1) (omega (arith, c.in_ok-found.ensures.time))

pub returns-in_err-asked-clause-calls : goal.returns-in_err-asked-clause-calls
returns-in_err-asked-clause-calls g c = early _ _ _ _ _ _ _ (refused _ _ c.from_residual-in_err-asked.ensures.1) (omega (arith, c.in_ok-found.ensures.time))

pub returns-in_err-selected-clause-calls : goal.returns-in_err-selected-clause-calls
returns-in_err-selected-clause-calls g c = asked_first _ _ _ _ _ _ _ c.in_ok-found.ensures.step.found c.in_ok-found.ensures.time 2 _ _ _ _ (omega arith) c.in_err-selected.ensures.calls (refused _ _ c.from_residual-in_err-selected.ensures.1)

pub returns-in_err-plan-clause-calls : goal.returns-in_err-plan-clause-calls
returns-in_err-plan-clause-calls g c = asked_first _ _ _ _ _ _ _ c.in_ok-found.ensures.step.found c.in_ok-found.ensures.time 4 _ _ _ _ (omega arith) (asks_then _ 2 2 _ _ _ _ _ _ c.in_ok-selected.ensures.calls c.in_err-plan.ensures.calls) (refused _ _ c.from_residual-in_err-plan.ensures.1)

pub returns-in_err-kept-clause-calls : goal.returns-in_err-kept-clause-calls
returns-in_err-kept-clause-calls g c = refused_later _ _ _ _ _ _ _ c.in_ok-found.ensures.step.found c.in_ok-found.ensures.time _ _ _ (refused _ _ c.from_residual-in_err-kept.ensures.1) (refused_so _ _ c.from_residual-in_err-kept.ensures.1 c.in_err-kept.ensures.code)

pub returns-in-Err-clause-calls : goal.returns-in-Err-clause-calls
returns-in-Err-clause-calls g c = refused_later _ _ _ _ _ _ _ c.in_ok-found.ensures.step.found c.in_ok-found.ensures.time _ _ _ (told_refused (Report c.in-Err.fault) _ refl) (λ three. omega (arith, three))

pub returns-clause-calls : goal.returns-clause-calls
returns-clause-calls g c =
    let sums = c.in_ok-kept.ensures.step in
    let tags = rw c.in_ok-asked.ensures.filter_tags at sums.sums in
    stored_later _ _ _ _ _ _ _ c.in_ok-found.ensures.step.found c.in_ok-found.ensures.time c.in_ok-asked.asked.partial _ _ _ _ _ _ _ c.in_ok-asked.ensures.partial
    (asks_then _ 2 2 _ _ _ _ _ _ c.in_ok-selected.ensures.calls c.in_ok-plan.ensures.calls)
    c.in_ok-kept.ensures.calls
    (told_still _ _ _ _ _ _ (c.tell_and_find-answer.ensures.still sums.rows tags))
    (finds_other _ _ _ _ _ _ _ _ (c.tell_and_find-answer.ensures.step (g.F.Site.seen c.args.site.now) (g.O.Sink.seen c.args.out.now) sums.rows tags))

-- ---- what was said

pub returns-in_err-found-clause-says : goal.returns-in_err-found-clause-says
returns-in_err-found-clause-says g c = said_early _ _ _ _ _ _ _ refl c.requires.speaks.0 c.requires.speaks.1 (refused _ _ c.from_residual.ensures.1)

pub returns-in_err-check_next_number-clause-says : goal.returns-in_err-check_next_number-clause-says
returns-in_err-check_next_number-clause-says g c = said_early _ _ _ _ _ _ _ refl c.requires.speaks.0 c.requires.speaks.1 (refused _ _ c.from_residual-in_err-check_next_number.ensures.1)

pub returns-in_err-asked-clause-says : goal.returns-in_err-asked-clause-says
returns-in_err-asked-clause-says g c = said_early _ _ _ _ _ _ _ refl c.requires.speaks.0 c.requires.speaks.1 (refused _ _ c.from_residual-in_err-asked.ensures.1)

pub returns-in_err-selected-clause-says : goal.returns-in_err-selected-clause-says
returns-in_err-selected-clause-says g c = said_early _ _ _ _ _ _ _ refl c.requires.speaks.0 c.requires.speaks.1 (refused _ _ c.from_residual-in_err-selected.ensures.1)

pub returns-in_err-plan-clause-says : goal.returns-in_err-plan-clause-says
returns-in_err-plan-clause-says g c = said_early _ _ _ _ _ _ _ refl c.requires.speaks.0 c.requires.speaks.1 (refused _ _ c.from_residual-in_err-plan.ensures.1)

pub returns-in_err-kept-clause-says : goal.returns-in_err-kept-clause-says
returns-in_err-kept-clause-says g c =
    said_refused _ _ _ _ _ _ _ _ c.in_ok-asked.ensures.partial (refused _ _ c.from_residual-in_err-kept.ensures.1) (refused_so _ _ c.from_residual-in_err-kept.ensures.1 c.in_err-kept.ensures.code) (rw c.shown_by.ensures at c.in_err-kept.ensures.some)

pub returns-in-Err-clause-says : goal.returns-in-Err-clause-says
returns-in-Err-clause-says g c =
    said_refused _ _ _ _ _ _ _ _ c.in_ok-asked.ensures.partial (told_refused (Report c.in-Err.fault) _ refl) (λ three. omega (arith, three)) (rw c.shown_by.ensures at c.in_ok-kept.ensures.some)

pub returns-clause-says : goal.returns-clause-says
returns-clause-says g c =
    let sums = c.in_ok-kept.ensures.step in
    let tags = rw c.in_ok-asked.ensures.filter_tags at sums.sums in
    let tells = c.tell_and_find-answer.ensures.step (g.F.Site.seen c.args.site.now) (g.O.Sink.seen c.args.out.now) sums.rows tags in
    said_done _ _ _ _ _ _ _ _ _ c.in_ok-asked.ensures.partial (finds_other _ _ _ _ _ _ _ _ tells) (rw c.shown_by.ensures at c.in_ok-kept.ensures.some) (rw c.shown_by.ensures at c.in_ok-kept.ensures.whole)
    _ _ _ _ _ _ _ _ tells refl refl

-- ---- what is left to tell

pub returns-in_err-found-clause-left : goal.returns-in_err-found-clause-left
returns-in_err-found-clause-left g c = λ input small. absurd (refused _ _ c.from_residual.ensures.1 small)

pub returns-in_err-check_next_number-clause-left : goal.returns-in_err-check_next_number-clause-left
returns-in_err-check_next_number-clause-left g c = λ input small. absurd (refused _ _ c.from_residual-in_err-check_next_number.ensures.1 small)

pub returns-in_err-asked-clause-left : goal.returns-in_err-asked-clause-left
returns-in_err-asked-clause-left g c = λ input small. absurd (refused _ _ c.from_residual-in_err-asked.ensures.1 small)

pub returns-in_err-selected-clause-left : goal.returns-in_err-selected-clause-left
returns-in_err-selected-clause-left g c = λ input small. absurd (refused _ _ c.from_residual-in_err-selected.ensures.1 small)

pub returns-in_err-plan-clause-left : goal.returns-in_err-plan-clause-left
returns-in_err-plan-clause-left g c = λ input small. absurd (refused _ _ c.from_residual-in_err-plan.ensures.1 small)

pub returns-in_err-kept-clause-left : goal.returns-in_err-kept-clause-left
returns-in_err-kept-clause-left g c = λ input small. absurd (refused _ _ c.from_residual-in_err-kept.ensures.1 small)

pub returns-in-Err-clause-left : goal.returns-in-Err-clause-left
returns-in-Err-clause-left g c = λ input small. absurd (told_refused (Report c.in-Err.fault) _ refl small)

pub returns-clause-left : goal.returns-clause-left
returns-clause-left g c = λ input small.
    let sums = c.in_ok-kept.ensures.step in
    let tags = rw c.in_ok-asked.ensures.filter_tags at sums.sums in
    leaves_run _ _ _ _ _ _ _ _ c.in_ok-found.found c.in_ok-selected.selected (record { jobs = c.in_ok-plan.plan.jobs.items; asked = c.in_ok-plan.plan.asked.items }) sums.rows _ _ _ _ _
    c.in_ok-found.ensures.step
    (c.in_ok-selected.ensures.step input (g.O.Sink.seen c.args.out.now))
    (c.in_ok-plan.ensures.step _ _ input (g.O.Sink.seen c.args.out.now))
    (works_as c.in_ok-asked.ensures.partial c.deref.ensures.value c.deref-2.ensures.value (sums.holds _ input _))
    (tells_still _ _ _ _ _ _ _ _ (c.tell_and_find-answer.ensures.step (g.F.Site.seen c.args.site.now) input sums.rows tags))
    (c.asks_tests-asks.ensures c.in_ok-selected.selected.ids c.selects_none-chose_none.ensures ∙ ap (asks_tests (wanted_of c.args.command.now) c.in_ok-selected.selected.ids) c.deref-3.ensures.value)
    c.deref-4.ensures.value
    refl
    (c.in-Ok.ensures c.args.conf.now.filter_tags sums.rows tags)
