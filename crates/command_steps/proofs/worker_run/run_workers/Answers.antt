use Rattle.std.proofs.Common.{◌≡◌, ◌-◌, Bool, List, [], ◌∷◌, ◌++◌, length, length-append, refl, sym, ap, subst, ◌∙◌, arith}
use Rattle.run_shelf.specs.Holds.{kinds_of, FitsWhereTold}
use Rattle.command_steps.specs.Steps.{stops}
use Rattle.command_steps.proofs.StepCalls.{works_by_few, handed, start_other, lanes_other, refresh_other}
use Rattle.command_steps.proofs.SpeakLemmas.{none_said, part_said, said_so_far, said_all, said_run, run_shown}
use Rattle.command_steps.proofs.StepLemmas.{part_done, part_stops, refreshes_as, gives}
use Rattle.command_steps.proofs.WorkLemmas.{keeps_fault, where_some}
use Rattle.command_steps.proofs.worker_run.run_workers.Goals as goal

pub returns-in_err-start_run-clause-step : goal.returns-in_err-start_run-clause-step
returns-in_err-start_run-clause-step g c = keeps_fault _ _ c.from_residual.ensures.1 (λ site input printed. part_stops _ refl c.in_err-start_run.ensures.step refl)

pub returns-in_err-lanes-clause-step : goal.returns-in_err-lanes-clause-step
returns-in_err-lanes-clause-step g c = keeps_fault _ _ c.from_residual-in_err-lanes.ensures.1 (λ site input printed.
    part_done _ _ c.in_ok-start_run.ensures.step
    (part_stops _ refl c.in_err-lanes.ensures.step refl))

pub returns-in_err-found-clause-step : goal.returns-in_err-found-clause-step
returns-in_err-found-clause-step g c = keeps_fault _ _ c.from_residual-in_err-found.ensures.1 (λ site input printed.
    part_done _ _ c.in_ok-start_run.ensures.step
    (part_done _ _ c.in_ok-lanes.ensures.step
    (part_stops _ refl c.in_err-found.ensures.step.holds refl)))

pub returns-in_err-keep_run-clause-step : goal.returns-in_err-keep_run-clause-step
returns-in_err-keep_run-clause-step g c = keeps_fault _ _ c.from_residual-in_err-keep_run.ensures.1 (λ site input printed.
    part_done _ _ c.in_ok-start_run.ensures.step
    (part_done _ _ c.in_ok-lanes.ensures.step
    (part_done _ _ c.in_ok-found.ensures.step.holds
    (part_stops _ refl (rw c.in_ok-found.ensures.kinds at c.in_err-keep_run.ensures.step) refl))))

pub returns-in-Ok-clause-step : goal.returns-in-Ok-clause-step
returns-in-Ok-clause-step g c =
    let sums = c.in_ok-found.ensures.step in
    record {
      rows = sums.rows;
      sums = sums.sums;
      holds = λ site input printed.
          part_done _ _ c.in_ok-start_run.ensures.step
          (part_done _ _ c.in_ok-lanes.ensures.step
          (part_done _ _ c.in_ok-found.ensures.step.holds
          (part_done _ _ (rw c.in_ok-found.ensures.kinds at c.in_ok-keep_run.ensures.step)
          (part_done _ _ (refreshes_as _ _ c.args.partial (c.in_ok-keep_run.ensures.kinds ∙ ap (λ (l : List Bool). l ++ c.args.partial ∷ []) c.in_ok-found.ensures.kinds) (c.in-Ok.ensures.step c.args.filter_tags sums.rows sums.sums))
          gives))));
    }

pub returns-clause-step : goal.returns-clause-step
returns-clause-step g c =
    let sums = c.in_ok-found.ensures.step in
    record {
      rows = [];
      sums = tt;
      holds = λ site input printed.
          part_done _ _ c.in_ok-start_run.ensures.step
          (part_done _ _ c.in_ok-lanes.ensures.step
          (part_done _ _ c.in_ok-found.ensures.step.holds
          (part_done _ _ (rw c.in_ok-found.ensures.kinds at c.in_ok-keep_run.ensures.step)
          (stops c.in-Err.fault refl (record { at = refreshes_as _ _ c.args.partial (c.in_ok-keep_run.ensures.kinds ∙ ap (λ (l : List Bool). l ++ c.args.partial ∷ []) c.in_ok-found.ensures.kinds) (c.in-Err.ensures.step c.args.filter_tags sums.rows sums.sums); rest = refl })))));
    }

-- ---- the runs that there are

pub returns-in-Ok-clause-found : goal.returns-in-Ok-clause-found
returns-in-Ok-clause-found g c =
    where_some c.copy_where-runs.result _ _ c.copy_where-runs.ensures (λ runs is. is ∙ c.in_ok-keep_run.ensures.kinds ∙ ap (λ (l : List Bool). l ++ c.args.partial ∷ []) c.in_ok-found.ensures.kinds)

pub returns-in-Ok-clause-fits : goal.returns-in-Ok-clause-fits
returns-in-Ok-clause-fits g c = where_some c.copy_where-runs.result _ _ c.copy_where-runs.ensures (λ runs is. subst (λ (k : List Bool). FitsWhereTold k (g.H.Shelf.seen c.refresh_caches.new.shelf).told) (sym is) c.in-Ok.ensures.fits)

-- ---- how many calls there were, and which status a refusal has

pub returns-in-Ok-clause-calls : goal.returns-in-Ok-clause-calls
returns-in-Ok-clause-calls g c =
    let sums = c.in_ok-found.ensures.step in
    let more = c.in_ok-keep_run.ensures.kinds ∙ ap (λ (l : List Bool). l ++ c.args.partial ∷ []) c.in_ok-found.ensures.kinds in
    let kinds : List Bool = kinds_of c.args.found in
    let last : length (kinds_of c.keep_run.new.found) - 1 ≡ length kinds = omega (arith, ap length more, length-append kinds (c.args.partial ∷ [])) in
    works_by_few c.args.partial (length kinds) _ sums.rows _ _ _ _ _ _ _ _ _ _ _
    c.requires.free
    c.in_ok-start_run.ensures.step.begun
    c.in_ok-start_run.ensures.time
    sums.holds.recorded
    sums.holds.files
    c.in_ok-found.ensures.calls
    (rw c.in_ok-found.ensures.kinds at c.in_ok-keep_run.ensures.step).kept
    c.in_ok-keep_run.ensures.time
    (refreshes_as _ _ c.args.partial more (c.in-Ok.ensures.step c.args.filter_tags sums.rows sums.sums))
    last
    c.in-Ok.ensures.calls

pub returns-in_err-start_run-clause-code : goal.returns-in_err-start_run-clause-code
returns-in_err-start_run-clause-code g c = handed _ _ c.from_residual.ensures.1 (λ three. omega (arith, three))

pub returns-in_err-lanes-clause-code : goal.returns-in_err-lanes-clause-code
returns-in_err-lanes-clause-code g c = handed _ _ c.from_residual-in_err-lanes.ensures.1 (start_other _)

pub returns-in_err-found-clause-code : goal.returns-in_err-found-clause-code
returns-in_err-found-clause-code g c = handed _ _ c.from_residual-in_err-found.ensures.1 (lanes_other _)

pub returns-in_err-keep_run-clause-code : goal.returns-in_err-keep_run-clause-code
returns-in_err-keep_run-clause-code g c = handed _ _ c.from_residual-in_err-keep_run.ensures.1 (λ three. omega (arith, three))

pub returns-clause-code : goal.returns-clause-code
returns-clause-code g c = refresh_other c.in-Err.fault

-- ---- what was said

pub returns-in_err-start_run-clause-some : goal.returns-in_err-start_run-clause-some
returns-in_err-start_run-clause-some g c = none_said _ _ _ _ _ _ refl c.requires.speaks.0 c.requires.speaks.1

pub returns-in_err-lanes-clause-some : goal.returns-in_err-lanes-clause-some
returns-in_err-lanes-clause-some g c = none_said _ _ _ _ _ _ refl c.requires.speaks.0 c.requires.speaks.1

pub returns-in_err-found-clause-some : goal.returns-in_err-found-clause-some
returns-in_err-found-clause-some g c = part_said _ _ _ _ _ _ c.in_err-found.ensures.some

pub returns-in_err-keep_run-clause-some : goal.returns-in_err-keep_run-clause-some
returns-in_err-keep_run-clause-some g c = said_so_far _ _ _ _ _ _ _ _ _ c.in_ok-found.ensures.aloud _ _

pub returns-in-Ok-clause-some : goal.returns-in-Ok-clause-some
returns-in-Ok-clause-some g c =
    let aloud = c.in_ok-found.ensures.aloud in
    said_all _ _ _ _ _ _ _ _ _ aloud _ _ c.say_end.ensures.out (rw c.deref.ensures.value at c.say_end.ensures.takes) c.args.partial _
    (run_shown c.args.partial (length (kinds_of c.args.found)) (kinds_of c.args.found) aloud.events _ _ _ _ _ c.requires.fits c.in_ok-start_run.ensures.step.begun aloud.added (rw c.in_ok-found.ensures.kinds at c.in_ok-keep_run.ensures.step).kept (c.in-Ok.ensures.step c.args.filter_tags aloud.rows aloud.sums).others)

pub returns-clause-some : goal.returns-clause-some
returns-clause-some g c =
    let aloud = c.in_ok-found.ensures.aloud in
    said_all _ _ _ _ _ _ _ _ _ aloud _ _ c.say_end.ensures.out (rw c.deref.ensures.value at c.say_end.ensures.takes) c.args.partial _
    (run_shown c.args.partial (length (kinds_of c.args.found)) (kinds_of c.args.found) aloud.events _ _ _ _ _ c.requires.fits c.in_ok-start_run.ensures.step.begun aloud.added (rw c.in_ok-found.ensures.kinds at c.in_ok-keep_run.ensures.step).kept (c.in-Err.ensures.step c.args.filter_tags aloud.rows aloud.sums).others)

pub returns-in-Ok-clause-whole : goal.returns-in-Ok-clause-whole
returns-in-Ok-clause-whole g c =
    let aloud = c.in_ok-found.ensures.aloud in
    said_run _ _ _ _ _ _ _ _ _ aloud _ _ c.say_end.ensures.out (rw c.deref.ensures.value at c.say_end.ensures.takes) c.args.partial _
    (run_shown c.args.partial (length (kinds_of c.args.found)) (kinds_of c.args.found) aloud.events _ _ _ _ _ c.requires.fits c.in_ok-start_run.ensures.step.begun aloud.added (rw c.in_ok-found.ensures.kinds at c.in_ok-keep_run.ensures.step).kept (c.in-Ok.ensures.step c.args.filter_tags aloud.rows aloud.sums).others)
