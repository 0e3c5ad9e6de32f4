use Rattle.std.proofs.Common.{refl}
use Rattle.packet_codec.specs.Shapes.{ByteRun}
use Rattle.packet_codec.proofs.GrammarLemmas.{found_pair, not_first, not_second}
use Rattle.packet_codec.proofs.ShapeLemmas.{run_free}
use Rattle.packet_codec.proofs.parts.FileBytesField.read_at.Goals as goal

pub returns-in_err-name-clause-none : goal.returns-in_err-name-clause-none
returns-in_err-name-clause-none c = rw c.from_residual.ensures (not_first ByteRun ByteRun _ c.in_err-name.ensures.none)

pub returns-in_err-bytes-clause-none : goal.returns-in_err-bytes-clause-none
returns-in_err-bytes-clause-none c = rw c.from_residual-in_err-bytes.ensures (not_second ByteRun ByteRun run_free _ _ _ c.type_inv.bytes c.in_ok-name.ensures.found c.in_err-bytes.ensures.none)

pub returns-clause-found : goal.returns-clause-found
returns-clause-found c = (_, found_pair ByteRun ByteRun _ _ _ _ _ c.in_ok-name.ensures.found c.in_ok-bytes.ensures.found, refl)
