-- A write that is interrupted appends nothing.
use Rattle.std.specs.Io.KnownBytes.{Keeps}
use Rattle.real_outside.proofs.stream_sink.write_retried.Given as goal

abbrev pub invariant-loop : goal.invariant-loop
invariant-loop g l = Keeps (g.W.Write.contents l.initial.stream) (g.W.Write.contents l.stream)
