use Rattle.std.proofs.Common.{refl}
use Rattle.packet_codec.proofs.ShapeLemmas.{no_stamp_number, number_below, stamp_found}
use Rattle.packet_codec.proofs.parts.StampField.read_at.Goals as goal

pub returns-in_err-nanos-clause-none : goal.returns-in_err-nanos-clause-none
returns-in_err-nanos-clause-none c = rw c.from_residual.ensures (no_stamp_number _ _ c.split_at.ensures.back c.in_err-nanos.ensures.none)

pub invariant_of-result : goal.invariant_of-result
invariant_of-result c = record { nanos_fit = number_below _ _ c.in_ok-nanos.ensures.found.spelled }

pub returns-clause-found : goal.returns-clause-found
returns-clause-found c = (_, stamp_found _ _ _ _ _ c.type_inv.bytes c.if-bytes-lt4.false c.split_at.ensures.front c.split_at.ensures.back c.from_be_bytes-seconds.ensures c.in_ok-nanos.ensures.found, refl)
