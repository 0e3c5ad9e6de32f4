use Rattle.std.proofs.Common.{◌≡◌, sym, subst, rules}
use Rattle.sub_number.specs.Texts.{IsShortText}
use Rattle.drawn_lanes.specs.Outputs.{test_id}
use Rattle.drawn_lanes.proofs.EventLemmas.{id_is_text}
use Rattle.drawn_lanes.proofs.packets.test_id.Goals as goal

pub from_tested-requires : goal.from_tested-requires
from_tested-requires c =
    let made : c.deref.result.now ≡ test_id c.args.lane c.args.test = search rules in
    subst IsShortText (sym made) (id_is_text c.args.lane c.args.test c.requires.lane c.requires.test)
