use Rattle.std.proofs.Common.{Ok, take}
use Rattle.std.specs.List.{flat_map}
use Rattle.sub_text.specs.Texts.{part_bytes}
use Rattle.command_steps.specs.Printing.{PrintsBehindHeld}
use Rattle.command_steps.proofs.report_printer.put_parts.Given as goal

abbrev pub invariant-loop-part : goal.invariant-loop-part
invariant-loop-part g l = PrintsBehindHeld (flat_map part_bytes (take l.part-index l.parts)) l.initial.gathered.items (g.O.Sink.seen l.initial.out) l.gathered.items (g.O.Sink.seen l.out) (Ok tt)
