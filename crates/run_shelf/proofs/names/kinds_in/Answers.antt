use Rattle.std.proofs.Common.{◌≡◌, sym, subst, length, arith, rules}
use Rattle.run_shelf.specs.Marks.{NamesTellKinds}
use Rattle.run_shelf.proofs.MarkLemmas.{have_gap, have_kinds}
use Rattle.run_shelf.proofs.names.kinds_in.Goals as goal

pub returns-in_default-clause-refused : goal.returns-in_default-clause-refused
returns-in_default-clause-refused c =
    let i = c.loop-mark.mark-index in
    let counted : c.len.result ≡ length c.loop-mark.kinds.items = search rules in
    rw (c.missing.ensures, counted) (have_gap c.args.names.now c.args.old c.args.marks.now c.requires.marks c.loop-mark.kinds.items i c.loop-mark.invariant.front c.loop-mark.invariant.count c.loop-mark-test.true c.in_default.is)

pub returns-clause-found : goal.returns-clause-found
returns-clause-found c =
    let i = c.loop-mark.mark-index in
    subst (NamesTellKinds c.args.names.now c.args.old) (sym c.in_ok-of.ensures.same)
    (have_kinds c.args.names.now c.args.old c.args.marks.now c.requires.marks c.loop-mark.kinds.items i c.loop-mark.invariant.front c.loop-mark.invariant.count (omega (arith, c.loop-mark-test.false)) c.loop-mark.auto.mark-index-end (omega arith))
