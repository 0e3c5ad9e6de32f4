use Rattle.std.proofs.Common.{arith}
use Rattle.edge_io.proofs.KeptLemmas.{forces_now}
use Rattle.edge_io.proofs.laws.the_last_moment_is_now.Goals as goal

pub returns : goal.returns
returns c = λ shelf moment past. forces_now shelf.files.items shelf.past.items shelf.current moment (omega (arith, past, shelf.since_a_call))
