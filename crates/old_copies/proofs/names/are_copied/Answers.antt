use Rattle.std.proofs.Common.{subst, arith}
use Rattle.std.specs.Prelude.{All}
use Rattle.std.proofs.lemmas.List.{take_all}
use Rattle.old_copies.specs.Copying.{IsCopiedFirst}
use Rattle.old_copies.proofs.NameLemmas.{all_more}
use Rattle.old_copies.proofs.names.are_copied.Goals as goal

pub loop-name-preserved : goal.loop-name-preserved
loop-name-preserved c =
    all_more c.args.count c.loop-name.name-index c.args.names.now c.name-item.result c.loop-name-test.true c.name-item.is c.loop-name.invariant
    (subst (IsCopiedFirst c.args.count) c.bytes.ensures.bytes (c.is_copied.ensures.0 c.if-not-is_copied.false))

pub returns-clause-all : goal.returns-clause-all
returns-clause-all c done =
    subst (All (IsCopiedFirst c.args.count)) (take_all c.loop-name.name-index c.args.names.now (omega (arith, c.loop-name-test.false))) c.loop-name.invariant
