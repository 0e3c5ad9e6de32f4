use Rattle.std.proofs.Common.{refl}
use Rattle.sub_number.proofs.PlainLemmas.{written_text}
use Rattle.worker_lane.proofs.end_inside_packet.plain_event.Goals as goal

pub from_tested-requires : goal.from_tested-requires
from_tested-requires c = written_text _ refl

pub from_tested-requires-2 : goal.from_tested-requires-2
from_tested-requires-2 c = written_text _ refl

pub from_tested-requires-3 : goal.from_tested-requires-3
from_tested-requires-3 c = written_text _ refl
