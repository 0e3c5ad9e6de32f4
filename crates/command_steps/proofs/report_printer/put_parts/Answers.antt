use Rattle.std.proofs.lemmas.Result.{err_from_is_err_and}
use Rattle.command_steps.proofs.PrintingLemmas.{passes_more, passes_failed}
use Rattle.sub_text.specs.Texts.{part_bytes}
use Rattle.command_steps.proofs.report_printer.put_parts.Goals as goal

pub returns-in_err-put : goal.returns-in_err-put
returns-in_err-put g c = let p = err_from_is_err_and c.from_residual.result c.from_residual.ensures.1 in rw (p.1, p.2) (passes_failed part_bytes c.args.parts.now c.loop-part.part-index _ c.loop-part-test.true c.loop-part.invariant c.in_err-put.ensures)

pub loop-part-preserved : goal.loop-part-preserved
loop-part-preserved g c = passes_more part_bytes c.args.parts.now c.loop-part.part-index _ c.loop-part-test.true c.loop-part.invariant c.in_ok-put.ensures
