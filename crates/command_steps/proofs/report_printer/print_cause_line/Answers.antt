use Rattle.std.proofs.Common.{◌∷◌, []}
use Rattle.std.proofs.lemmas.Result.{err_from_is_err_and}
use Rattle.command_steps.proofs.PrintingLemmas.{passes_not, passes_then, prints_stopped, prints_all}
use Rattle.command_steps.proofs.report_printer.print_cause_line.Goals as goal

pub returns-in_err-put : goal.returns-in_err-put
returns-in_err-put g c =
    let p = err_from_is_err_and c.from_residual.result c.from_residual.ensures.1 in
    rw (p.1, p.2) (prints_stopped {kept = []} (passes_not {mid = []} (10 ∷ []) (passes_not {mid = []} c.args.line.now.cause.now (passes_not c.args.line.now.said.now (rw (c.new-gathered.ensures) at c.in_err-put.ensures)))))

pub returns-in_err-put-2 : goal.returns-in_err-put-2
returns-in_err-put-2 g c =
    let p = err_from_is_err_and c.from_residual-in_err-put-2.result c.from_residual-in_err-put-2.ensures.1 in
    let first = rw (c.new-gathered.ensures) at c.in_ok-put.ensures in
    rw (p.1, p.2) (prints_stopped {kept = []} (passes_not {mid = []} (10 ∷ []) (passes_not c.args.line.now.cause.now (passes_then first c.in_err-put-2.ensures))))

pub returns-in_err-put-3 : goal.returns-in_err-put-3
returns-in_err-put-3 g c =
    let p = err_from_is_err_and c.from_residual-in_err-put-3.result c.from_residual-in_err-put-3.ensures.1 in
    let first = rw (c.new-gathered.ensures) at c.in_ok-put.ensures in
    rw (p.1, p.2) (prints_stopped {kept = []} (passes_not (10 ∷ []) (passes_then (passes_then first c.in_ok-put-2.ensures) c.in_err-put-3.ensures)))

pub returns-in_err-put-4 : goal.returns-in_err-put-4
returns-in_err-put-4 g c =
    let p = err_from_is_err_and c.from_residual-in_err-put-4.result c.from_residual-in_err-put-4.ensures.1 in
    let first = rw (c.new-gathered.ensures) at c.in_ok-put.ensures in
    rw (p.1, p.2) (prints_stopped (passes_then (passes_then (passes_then first c.in_ok-put-2.ensures) c.in_ok-put-3.ensures) c.in_err-put-4.ensures))

pub returns : goal.returns
returns g c =
    let first = rw (c.new-gathered.ensures) at c.in_ok-put.ensures in
    prints_all c.print_text.result (passes_then (passes_then (passes_then first c.in_ok-put-2.ensures) c.in_ok-put-3.ensures) c.in_ok-put-4.ensures) c.as_slice.ensures.value c.print_text.ensures
