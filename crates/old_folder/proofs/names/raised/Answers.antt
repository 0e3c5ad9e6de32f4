use Rattle.std.proofs.Common.{arith}
use Rattle.old_folder.proofs.CountLemmas.{raises_less, raises_more}
use Rattle.old_folder.proofs.names.raised.Goals as goal

pub returns-in-Some : goal.returns-in-Some
returns-in-Some c =
    let named = c.in-Some.ensures.some in
    raises_more c.args.name.now c.args.count c.in-Some.number named.0 named.1 (omega (arith, c.if-number-count.true))

pub returns-in_default : goal.returns-in_default
returns-in_default c =
    let named = c.in-Some.ensures.some in
    raises_less c.args.name.now c.args.count c.in-Some.number named.0 named.1 (omega (arith, c.if-number-count.false))
