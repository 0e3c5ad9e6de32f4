use Rattle.sub_number.proofs.PlainLemmas.{plain_from_lanes}
use Rattle.sub_number.proofs.ascii.lanes_are_plain.Goals as goal

pub returns : goal.returns
returns g c = plain_from_lanes c.args.bytes.now c.args.start g.row.N c.requires.few c.requires.room c.type_inv.bytes
