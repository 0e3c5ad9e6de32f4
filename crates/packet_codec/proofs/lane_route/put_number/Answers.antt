use Rattle.std.proofs.Common.{◌≡◌, ◌+◌, ◌/◌, ◌%◌, [], ◌∷◌, arith}
use Rattle.std.specs.Fmt.{decimal}
use Rattle.std.proofs.lemmas.Grind.{common_steps}
use Rattle.packet_codec.proofs.RoutingLemmas.{decimal_two}
use Rattle.packet_codec.proofs.lane_route.put_number.Goals as goal

pub returns-clause-ok : goal.returns-clause-ok
returns-clause-ok c =
    let digits : decimal c.args.lane ≡ (48 + c.args.lane / 10) ∷ (48 + c.args.lane % 10) ∷ [] = decimal_two c.args.lane (omega arith) (omega arith) in
    rw digits (grind (arith, common_steps))
