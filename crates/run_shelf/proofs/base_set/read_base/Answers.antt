use Rattle.std.proofs.Common.{IfSome, subst}
use Rattle.run_shelf.specs.declared.names.Format.{Format}
use Rattle.run_shelf.specs.Looking.{HasThisFormat}
use Rattle.run_shelf.proofs.BaseLemmas.{reads_under_first}
use Rattle.run_shelf.proofs.base_set.read_base.Goals as goal

pub returns-in-Ok-First-clause-found : goal.returns-in-Ok-First-clause-found
returns-in-Ok-First-clause-found g c =
    let state = (g.H.Shelf.seen c.args.shelf.now).told in
    reads_under_first state c.no_base.result (subst (λ (f : Format). IfSome state (HasThisFormat f)) c.in-Ok-First.field-0-is c.in-Ok-First.ensures.right) c.no_base.ensures
