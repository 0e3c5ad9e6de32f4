use Rattle.packet_codec.proofs.ShapeLemmas.{no_number_found}
use Rattle.packet_codec.proofs.parts.number_at.Goals as goal

pub returns-in_err-value-clause-none : goal.returns-in_err-value-clause-none
returns-in_err-value-clause-none c = rw c.from_residual.ensures (no_number_found _ c.in_err-value.ensures.none)
