use Rattle.std.proofs.Common.{sym, subst, List, ℕ, IfSome}
use Rattle.edge_io.specs.Names.{AreNamesOf}
use Rattle.old_copies.proofs.NameLemmas.{holds_other}
use Rattle.old_copies.proofs.names.check_names.Goals as goal

pub returns-clause-refused : goal.returns-clause-refused
returns-clause-refused g c =
    let state = (g.H.Shelf.seen c.args.shelf.now).told in
    let listed = subst (λ (l : List (List ℕ)). IfSome state (λ s. AreNamesOf s.disk.published l)) (sym c.deref.ensures.value) c.in-Ok.ensures.found in
    holds_other c.args.count state c.deref.result.now listed (c.are_copied.ensures.other c.if-are_copied.false)
