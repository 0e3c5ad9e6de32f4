use Rattle.std.proofs.Common.{refl, arith}
use Rattle.command_steps.proofs.CopyLemmas.{not_read, was_copied, not_copied}
use Rattle.command_steps.proofs.run_copy.copy_piece.Goals as goal

pub returns-in_default : goal.returns-in_default
returns-in_default g c = not_read _ _ _ _ _ _ c.read_run.ensures.same _ c.read_run.result c.in_default.field-0 c.requires.known c.requires.fits c.in_default.is c.read_run.ensures.cause

pub returns-in-Ok-print_text : goal.returns-in-Ok-print_text
returns-in-Ok-print_text g c = was_copied _ _ _ _ _ _ c.read_run.ensures.same _ c.read_run.new.buf _ _ (omega (arith, c.read_run.auto.buf)) refl c.in-Ok.ensures.part c.in-Ok.ensures.cause.done (omega (arith, c.in-Ok.ensures.bound)) c.in-Ok-print_text.ensures.whole c.in-Ok-print_text.ensures.count.done

pub returns-in-Err : goal.returns-in-Err
returns-in-Err g c = not_copied _ _ _ _ _ _ c.read_run.ensures.same _ c.read_run.new.buf _ _ (omega (arith, c.read_run.auto.buf)) refl c.in-Ok.ensures.part c.in-Ok.ensures.cause.done c.print_text.result c.in-Err.fault c.in-Err.fault c.print_text.ensures.prefix c.in-Err.is c.print_text.ensures.count
