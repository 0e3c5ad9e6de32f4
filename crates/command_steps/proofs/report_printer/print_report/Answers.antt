use Rattle.std.proofs.Common.{[], ap}
use Rattle.std.specs.List.{flat_map}
use Rattle.std.proofs.lemmas.Result.{err_from_is_err_and}
use Rattle.sub_text.specs.Texts.{failure_of}
use Rattle.command_steps.proofs.PrintingLemmas.{passes_as, passes_not, passes_then, prints_stopped, prints_all}
use Rattle.command_steps.proofs.report_printer.print_report.Goals as goal

pub returns-in_err-put_failures : goal.returns-in_err-put_failures
returns-in_err-put_failures g c = λ filter_tags rows sums.
    let p = err_from_is_err_and c.from_residual.result c.from_residual.ensures.1 in
    let failures = passes_as (ap (flat_map failure_of) (c.failing.ensures filter_tags rows sums)) (rw (c.new-gathered.ensures) at c.in_err-put_failures.ensures) in
    rw (p.1, p.2) (prints_stopped {kept = []} (passes_not c.args.ending.now.lines.items failures))

pub returns-in_err-put : goal.returns-in_err-put
returns-in_err-put g c = λ filter_tags rows sums.
    let p = err_from_is_err_and c.from_residual-in_err-put.result c.from_residual-in_err-put.ensures.1 in
    let failures = passes_as (ap (flat_map failure_of) (c.failing.ensures filter_tags rows sums)) (rw (c.new-gathered.ensures) at c.in_ok-put_failures.ensures) in
    rw (p.1, p.2) (prints_stopped (passes_then failures (passes_as c.deref.ensures.value c.in_err-put.ensures)))

pub returns : goal.returns
returns g c = λ filter_tags rows sums.
    let failures = passes_as (ap (flat_map failure_of) (c.failing.ensures filter_tags rows sums)) (rw (c.new-gathered.ensures) at c.in_ok-put_failures.ensures) in
    prints_all c.print_text.result (passes_then failures (passes_as c.deref.ensures.value c.in_ok-put.ensures)) c.as_slice.ensures.value c.print_text.ensures
