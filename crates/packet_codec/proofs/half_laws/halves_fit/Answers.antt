use Rattle.packet_codec.proofs.HalfLemmas.{first_fits, second_fits}
use Rattle.packet_codec.proofs.half_laws.halves_fit.Goals as goal

pub returns-clause-first : goal.returns-clause-first
returns-clause-first c = first_fits

pub returns-clause-second : goal.returns-clause-second
returns-clause-second c = second_fits
