use Rattle.std.proofs.Common.{length}
use Rattle.packet_codec.specs.Shapes.{ByteRuns}
use Rattle.packet_codec.proofs.GrammarLemmas.{not_number}
use Rattle.packet_codec.proofs.ShapeLemmas.{no_counted_runs, counted_runs_found}
use Rattle.packet_codec.proofs.parts.RunListField.read_at.Goals as goal

pub returns-in_err-count-clause-none : goal.returns-in_err-count-clause-none
returns-in_err-count-clause-none c = rw c.from_residual.ensures (not_number length ByteRuns _ c.in_err-count.ensures.none)

pub returns-in_err-rest-clause-none : goal.returns-in_err-rest-clause-none
returns-in_err-rest-clause-none c = rw c.from_residual-in_err-rest.ensures (no_counted_runs _ _ _ c.type_inv.bytes c.in_ok-count.ensures.found c.in_err-rest.ensures.none)

pub returns-clause-found : goal.returns-clause-found
returns-clause-found c =
    let runs = c.in_ok-rest.ensures.found in
    (runs.0, counted_runs_found _ _ _ _ _ c.in_ok-count.ensures.found runs.1, (_, runs.1))
