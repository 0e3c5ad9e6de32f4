use Rattle.std.proofs.Common.{◌≡◌, get_or, ap, ◌∙◌, rules}
use Rattle.std.proofs.lemmas.Result.{err_from_is_err_and}
use Rattle.sub_text.specs.Texts.{failure_of}
use Rattle.command_steps.proofs.PrintingLemmas.{passes_as, passes_more, passes_failed}
use Rattle.command_steps.proofs.report_printer.put_failures.Goals as goal

pub returns-in_err-put_parts : goal.returns-in_err-put_parts
returns-in_err-put_parts g c =
    let p = err_from_is_err_and c.from_residual.result c.from_residual.ensures.1 in
    let row : c.row-item.result ≡ get_or c.args.rows.now c.loop-row.row-index c.row-item.result = search rules in
    rw (p.1, p.2)
    (passes_failed failure_of c.args.rows.now c.loop-row.row-index c.row-item.result c.loop-row-test.true c.loop-row.invariant
    (passes_as (c.failure_parts.ensures ∙ ap failure_of row) c.in_err-put_parts.ensures))

pub loop-row-preserved : goal.loop-row-preserved
loop-row-preserved g c =
    let row : c.row-item.result ≡ get_or c.args.rows.now c.loop-row.row-index c.row-item.result = search rules in
    passes_more failure_of c.args.rows.now c.loop-row.row-index c.row-item.result c.loop-row-test.true c.loop-row.invariant
    (passes_as (c.failure_parts.ensures ∙ ap failure_of row) c.in_ok-put_parts.ensures)
