use Rattle.suite_plan.proofs.TableLemmas.{HasCountedProcessors}
use Rattle.suite_plan.proofs.processors.processors_in.Given as goal

abbrev pub invariant-loop-line : goal.invariant-loop-line
invariant-loop-line l = HasCountedProcessors l.fn.table l.lines l.number
