use Rattle.std.proofs.Common.{refl}
use Rattle.sub_number.proofs.PlainLemmas.{written_text}
use Rattle.v1_bridge.proofs.event.lines_part.Goals as goal

pub from_tested-requires : goal.from_tested-requires
from_tested-requires c = written_text _ refl
