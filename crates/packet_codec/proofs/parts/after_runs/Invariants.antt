use Rattle.std.proofs.Common.{List, ℕ}
use Rattle.packet_codec.specs.Shapes.{BeginsWithRuns}
use Rattle.packet_codec.proofs.parts.after_runs.Given as goal

abbrev pub invariant-loop : goal.invariant-loop
invariant-loop l = (runs : List (List ℕ)) × BeginsWithRuns l.bytes l.counter runs l.rest
