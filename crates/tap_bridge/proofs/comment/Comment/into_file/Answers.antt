use Rattle.std.proofs.Common.{refl}
use Rattle.sub_number.proofs.PlainLemmas.{written_text}
use Rattle.tap_bridge.proofs.comment.Comment.into_file.Goals as goal

pub from_tested-requires : goal.from_tested-requires
from_tested-requires c = written_text _ refl
