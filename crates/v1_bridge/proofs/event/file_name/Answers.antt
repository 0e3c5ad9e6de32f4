use Rattle.std.proofs.Common.{refl}
use Rattle.sub_number.proofs.PlainLemmas.{written_text}
use Rattle.v1_bridge.proofs.event.file_name.Goals as goal

pub from_tested-requires : goal.from_tested-requires
from_tested-requires c = written_text _ refl

pub from_tested-requires-in-Skip : goal.from_tested-requires-in-Skip
from_tested-requires-in-Skip c = written_text _ refl

pub from_tested-requires-in-Unset : goal.from_tested-requires-in-Unset
from_tested-requires-in-Unset c = written_text _ refl
