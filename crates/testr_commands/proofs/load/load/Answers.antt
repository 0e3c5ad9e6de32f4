use Rattle.std.proofs.Common.{[], length, refl}
use Rattle.std.specs.List.{filter}
use Rattle.outcome_fold.specs.Answers.{row_fails}
use Rattle.command_steps.specs.Reporting.{report_shown}
use Rattle.command_steps.specs.Steps.{stops, goes_on}
use Rattle.command_steps.proofs.StepLemmas.{stopped, still_done, part_done, still_stops, part_stops, reports_as, refreshes_as, gives}
use Rattle.command_steps.specs.declared.answer.Refusal.TheVariants.{Refresh}
use Rattle.command_steps.proofs.Resting.{surveyed_fits}
use Rattle.command_steps.proofs.SpeakLemmas.{part_said, said_so_far, said_all, said_run, run_shown}
use Rattle.run_shelf.specs.Holds.{kinds_of}
use Rattle.testr_commands.proofs.CallLemmas.{refused, told_refused}
use Rattle.testr_commands.proofs.SaidLemmas.{said_early, load_refused, load_said}
use Rattle.testr_commands.proofs.EndLemmas.{leaves_load, loaded_left}
use Rattle.testr_commands.proofs.load.load.Goals as goal

pub returns-in_err-found-clause-step : goal.returns-in_err-found-clause-step
returns-in_err-found-clause-step g c = λ spawner. part_stops _ c.from_residual.ensures.1 c.in_err-found.ensures.step refl

pub returns-in_err-check_next_number-clause-step : goal.returns-in_err-check_next_number-clause-step
returns-in_err-check_next_number-clause-step g c = λ spawner.
    part_done _ _ c.in_ok-found.ensures.step
    (still_stops _ c.from_residual-in_err-check_next_number.ensures.1 c.in_err-check_next_number.ensures refl)

pub returns-in_err-start_run-clause-step : goal.returns-in_err-start_run-clause-step
returns-in_err-start_run-clause-step g c = λ spawner.
    part_done _ _ c.in_ok-found.ensures.step
    (still_done _ c.in_ok-check_next_number.ensures
    (part_stops _ c.from_residual-in_err-start_run.ensures.1 c.in_err-start_run.ensures.step refl))

pub returns-in_err-summary-clause-step : goal.returns-in_err-summary-clause-step
returns-in_err-summary-clause-step g c = λ spawner.
    part_done _ _ c.in_ok-found.ensures.step
    (still_done _ c.in_ok-check_next_number.ensures
    (part_done _ _ c.in_ok-start_run.ensures.step
    (stopped _ c.from_residual-in_err-summary.ensures.1 (c.in_err-summary.ensures.step.holds spawner (g.O.Sink.seen c.args.out.now)))))

pub returns-in_err-missing-clause-step : goal.returns-in_err-missing-clause-step
returns-in_err-missing-clause-step g c =
    let sums = c.in_ok-summary.ensures.step in
    λ spawner.
    part_done _ _ c.in_ok-found.ensures.step
    (still_done _ c.in_ok-check_next_number.ensures
    (part_done _ _ c.in_ok-start_run.ensures.step
    (goes_on sums.rows _ (sums.holds spawner (g.O.Sink.seen c.args.out.now))
    (still_stops _ c.from_residual-in_err-missing.ensures.1 (record { told = tt }) refl))))

pub returns-in_err-ending-clause-step : goal.returns-in_err-ending-clause-step
returns-in_err-ending-clause-step g c =
    let sums = c.in_ok-summary.ensures.step in
    λ spawner.
    part_done _ _ c.in_ok-found.ensures.step
    (still_done _ c.in_ok-check_next_number.ensures
    (part_done _ _ c.in_ok-start_run.ensures.step
    (goes_on sums.rows _ (sums.holds spawner (g.O.Sink.seen c.args.out.now))
    (still_stops _ c.from_residual-in_err-ending.ensures.1 (reports_as c.runs.ensures (c.in_err-ending.ensures [] sums.rows sums.sums)) refl))))

pub returns-in_err-keep_run-clause-step : goal.returns-in_err-keep_run-clause-step
returns-in_err-keep_run-clause-step g c =
    let sums = c.in_ok-summary.ensures.step in
    λ spawner.
    part_done _ _ c.in_ok-found.ensures.step
    (still_done _ c.in_ok-check_next_number.ensures
    (part_done _ _ c.in_ok-start_run.ensures.step
    (goes_on sums.rows _ (sums.holds spawner (g.O.Sink.seen c.args.out.now))
    (still_done (report_shown (filter row_fails sums.rows) c.in_ok-ending.ending) (reports_as c.runs.ensures (c.in_ok-ending.ensures [] sums.rows sums.sums))
    (part_stops _ c.from_residual-in_err-keep_run.ensures.1 c.in_err-keep_run.ensures.step refl)))))

pub returns-in-Err-clause-step : goal.returns-in-Err-clause-step
returns-in-Err-clause-step g c =
    let sums = c.in_ok-summary.ensures.step in
    λ spawner.
    part_done _ _ c.in_ok-found.ensures.step
    (still_done _ c.in_ok-check_next_number.ensures
    (part_done _ _ c.in_ok-start_run.ensures.step
    (goes_on sums.rows _ (sums.holds spawner (g.O.Sink.seen c.args.out.now))
    (still_done (report_shown (filter row_fails sums.rows) c.in_ok-ending.ending) (reports_as c.runs.ensures (c.in_ok-ending.ensures [] sums.rows sums.sums))
    (part_done _ _ c.in_ok-keep_run.ensures.step
    (stops c.in-Err.fault refl (record { at = refreshes_as _ _ _ c.in_ok-keep_run.ensures.kinds (c.in-Err.ensures.step [] sums.rows sums.sums); rest = refl })))))))

pub returns-in_err-print_report-clause-step : goal.returns-in_err-print_report-clause-step
returns-in_err-print_report-clause-step g c =
    let sums = c.in_ok-summary.ensures.step in
    λ spawner.
    part_done _ _ c.in_ok-found.ensures.step
    (still_done _ c.in_ok-check_next_number.ensures
    (part_done _ _ c.in_ok-start_run.ensures.step
    (goes_on sums.rows _ (sums.holds spawner (g.O.Sink.seen c.args.out.now))
    (still_done (report_shown (filter row_fails sums.rows) c.in_ok-ending.ending) (reports_as c.runs.ensures (c.in_ok-ending.ensures [] sums.rows sums.sums))
    (part_done _ _ c.in_ok-keep_run.ensures.step
    (part_done _ _ (refreshes_as _ _ _ c.in_ok-keep_run.ensures.kinds (c.in_default.ensures.step [] sums.rows sums.sums))
    (part_stops _ c.from_residual-in_err-print_report.ensures.1 (c.in_err-print_report.ensures [] sums.rows sums.sums) refl)))))))

pub returns-clause-step : goal.returns-clause-step
returns-clause-step g c =
    let sums = c.in_ok-summary.ensures.step in
    λ spawner.
    part_done _ _ c.in_ok-found.ensures.step
    (still_done _ c.in_ok-check_next_number.ensures
    (part_done _ _ c.in_ok-start_run.ensures.step
    (goes_on sums.rows _ (sums.holds spawner (g.O.Sink.seen c.args.out.now))
    (still_done (report_shown (filter row_fails sums.rows) c.in_ok-ending.ending) (reports_as c.runs.ensures (c.in_ok-ending.ensures [] sums.rows sums.sums))
    (part_done _ _ c.in_ok-keep_run.ensures.step
    (part_done _ _ (refreshes_as _ _ _ c.in_ok-keep_run.ensures.kinds (c.in_default.ensures.step [] sums.rows sums.sums))
    (part_done _ _ (c.in_ok-print_report.ensures [] sums.rows sums.sums)
    gives)))))))

-- ---- what was said

pub returns-in_err-found-clause-says : goal.returns-in_err-found-clause-says
returns-in_err-found-clause-says g c = said_early _ _ _ _ _ _ _ refl c.requires.speaks.0 c.requires.speaks.1 (refused _ _ c.from_residual.ensures.1)

pub returns-in_err-check_next_number-clause-says : goal.returns-in_err-check_next_number-clause-says
returns-in_err-check_next_number-clause-says g c = said_early _ _ _ _ _ _ _ refl c.requires.speaks.0 c.requires.speaks.1 (refused _ _ c.from_residual-in_err-check_next_number.ensures.1)

pub returns-in_err-start_run-clause-says : goal.returns-in_err-start_run-clause-says
returns-in_err-start_run-clause-says g c = said_early _ _ _ _ _ _ _ refl c.requires.speaks.0 c.requires.speaks.1 (refused _ _ c.from_residual-in_err-start_run.ensures.1)

pub returns-in_err-summary-clause-says : goal.returns-in_err-summary-clause-says
returns-in_err-summary-clause-says g c = load_refused _ _ _ _ _ _ _ (refused _ _ c.from_residual-in_err-summary.ensures.1) (part_said _ _ _ _ _ _ (rw c.shown_by.ensures at c.in_err-summary.ensures.some))

pub returns-in_err-missing-clause-says : goal.returns-in_err-missing-clause-says
returns-in_err-missing-clause-says g c = load_refused _ _ _ _ _ _ _ (refused _ _ c.from_residual-in_err-missing.ensures.1) (said_so_far _ _ _ _ _ _ _ _ _ (rw c.shown_by.ensures at c.in_ok-summary.ensures.aloud) _ _)

pub returns-in_err-ending-clause-says : goal.returns-in_err-ending-clause-says
returns-in_err-ending-clause-says g c = load_refused _ _ _ _ _ _ _ (refused _ _ c.from_residual-in_err-ending.ensures.1) (said_so_far _ _ _ _ _ _ _ _ _ (rw c.shown_by.ensures at c.in_ok-summary.ensures.aloud) _ _)

pub returns-in_err-keep_run-clause-says : goal.returns-in_err-keep_run-clause-says
returns-in_err-keep_run-clause-says g c = load_refused _ _ _ _ _ _ _ (refused _ _ c.from_residual-in_err-keep_run.ensures.1) (said_so_far _ _ _ _ _ _ _ _ _ (rw c.shown_by.ensures at c.in_ok-summary.ensures.aloud) _ _)

pub returns-in-Err-clause-says : goal.returns-in-Err-clause-says
returns-in-Err-clause-says g c =
    let aloud = rw c.shown_by.ensures at c.in_ok-summary.ensures.aloud in
    let kinds = kinds_of c.in_ok-found.found in
    load_refused _ _ _ _ _ _ _ (told_refused (Refresh c.in-Err.fault) _ refl)
    (said_all _ _ _ _ _ _ _ _ _ aloud _ _ c.say_end.ensures.out (rw c.deref.ensures.value at c.say_end.ensures.takes) c.args.command.now.partial _
    (run_shown c.args.command.now.partial (length kinds) kinds aloud.events _ _ _ _ _ (surveyed_fits kinds _ _ c.in_ok-found.ensures.step.found) c.in_ok-start_run.ensures.step.begun aloud.added c.in_ok-keep_run.ensures.step.kept (c.in-Err.ensures.step [] aloud.rows aloud.sums).others))

pub returns-in_err-print_report-clause-says : goal.returns-in_err-print_report-clause-says
returns-in_err-print_report-clause-says g c =
    let aloud = rw c.shown_by.ensures at c.in_ok-summary.ensures.aloud in
    let kinds = kinds_of c.in_ok-found.found in
    load_refused _ _ _ _ _ _ _ (refused _ _ c.from_residual-in_err-print_report.ensures.1)
    (said_all _ _ _ _ _ _ _ _ _ aloud _ _ c.say_end.ensures.out (rw c.deref.ensures.value at c.say_end.ensures.takes) c.args.command.now.partial _
    (run_shown c.args.command.now.partial (length kinds) kinds aloud.events _ _ _ _ _ (surveyed_fits kinds _ _ c.in_ok-found.ensures.step.found) c.in_ok-start_run.ensures.step.begun aloud.added c.in_ok-keep_run.ensures.step.kept (c.in_default.ensures.step [] aloud.rows aloud.sums).others))

pub returns-clause-says : goal.returns-clause-says
returns-clause-says g c =
    let aloud = rw c.shown_by.ensures at c.in_ok-summary.ensures.aloud in
    let kinds = kinds_of c.in_ok-found.found in
    let takes = rw c.deref.ensures.value at c.say_end.ensures.takes in
    let shown = run_shown c.args.command.now.partial (length kinds) kinds aloud.events _ _ _ _ _ (surveyed_fits kinds _ _ c.in_ok-found.ensures.step.found) c.in_ok-start_run.ensures.step.begun aloud.added c.in_ok-keep_run.ensures.step.kept (c.in_default.ensures.step [] aloud.rows aloud.sums).others in
    load_said _ _ _ _ _ _ _
    (said_all _ _ _ _ _ _ _ _ _ aloud _ _ c.say_end.ensures.out takes c.args.command.now.partial _ shown)
    (said_run _ _ _ _ _ _ _ _ _ aloud _ _ c.say_end.ensures.out takes c.args.command.now.partial _ shown)

-- ---- what is left to tell

pub returns-in_err-found-clause-left : goal.returns-in_err-found-clause-left
returns-in_err-found-clause-left g c = λ small. absurd (refused _ _ c.from_residual.ensures.1 small)

pub returns-in_err-check_next_number-clause-left : goal.returns-in_err-check_next_number-clause-left
returns-in_err-check_next_number-clause-left g c = λ small. absurd (refused _ _ c.from_residual-in_err-check_next_number.ensures.1 small)

pub returns-in_err-start_run-clause-left : goal.returns-in_err-start_run-clause-left
returns-in_err-start_run-clause-left g c = λ small. absurd (refused _ _ c.from_residual-in_err-start_run.ensures.1 small)

pub returns-in_err-summary-clause-left : goal.returns-in_err-summary-clause-left
returns-in_err-summary-clause-left g c = λ small. absurd (refused _ _ c.from_residual-in_err-summary.ensures.1 small)

pub returns-in_err-missing-clause-left : goal.returns-in_err-missing-clause-left
returns-in_err-missing-clause-left g c = λ small. absurd (refused _ _ c.from_residual-in_err-missing.ensures.1 small)

pub returns-in_err-ending-clause-left : goal.returns-in_err-ending-clause-left
returns-in_err-ending-clause-left g c = λ small. absurd (refused _ _ c.from_residual-in_err-ending.ensures.1 small)

pub returns-in_err-keep_run-clause-left : goal.returns-in_err-keep_run-clause-left
returns-in_err-keep_run-clause-left g c = λ small. absurd (refused _ _ c.from_residual-in_err-keep_run.ensures.1 small)

pub returns-in-Err-clause-left : goal.returns-in-Err-clause-left
returns-in-Err-clause-left g c = λ small. absurd (told_refused (Refresh c.in-Err.fault) _ refl small)

pub returns-in_err-print_report-clause-left : goal.returns-in_err-print_report-clause-left
returns-in_err-print_report-clause-left g c = λ small. absurd (refused _ _ c.from_residual-in_err-print_report.ensures.1 small)

pub returns-clause-left : goal.returns-clause-left
returns-clause-left g c = λ small.
    let sums = c.in_ok-summary.ensures.step in
    loaded_left _ _ c.args.expected _ sums.rows _ _ _ _ sums.sums (λ ids left spawner.
    leaves_load _ _ ids _ _ _ _ _ _ _ c.in_ok-found.found sums.rows (report_shown (filter row_fails sums.rows) c.in_ok-ending.ending) _ _
    c.in_ok-found.ensures.step
    c.in_ok-check_next_number.ensures
    c.in_ok-start_run.ensures.step
    (sums.holds spawner (g.O.Sink.seen c.args.out.now))
    (reports_as c.runs.ensures (c.in_ok-ending.ensures [] sums.rows sums.sums))
    c.in_ok-keep_run.ensures.step
    (refreshes_as _ _ _ c.in_ok-keep_run.ensures.kinds (c.in_default.ensures.step [] sums.rows sums.sums))
    refl
    left) c.in_ok-missing.ensures
