use Rattle.std.proofs.Common.{IfSome, subst}
use Rattle.run_shelf.specs.declared.names.Format.{Format}
use Rattle.run_shelf.specs.Looking.{HasThisFormat}
use Rattle.run_shelf.proofs.BaseLemmas.{counts_none}
use Rattle.run_shelf.proofs.names.old_runs.Goals as goal

pub returns-in-First-clause-count : goal.returns-in-First-clause-count
returns-in-First-clause-count g c =
    let state = (g.H.Shelf.seen c.args.shelf.now).told in
    counts_none state (subst (λ (f : Format). IfSome state (HasThisFormat f)) c.in-First.is c.requires)
