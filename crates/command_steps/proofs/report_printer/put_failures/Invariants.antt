use Rattle.std.proofs.Common.{Ok, take}
use Rattle.std.specs.List.{flat_map}
use Rattle.sub_text.specs.Texts.{failure_of}
use Rattle.command_steps.specs.Printing.{PrintsBehindHeld}
use Rattle.command_steps.proofs.report_printer.put_failures.Given as goal

abbrev pub invariant-loop-row : goal.invariant-loop-row
invariant-loop-row g l = PrintsBehindHeld (flat_map failure_of (take l.row-index l.rows)) l.initial.gathered.items (g.O.Sink.seen l.initial.out) l.gathered.items (g.O.Sink.seen l.out) (Ok tt)
