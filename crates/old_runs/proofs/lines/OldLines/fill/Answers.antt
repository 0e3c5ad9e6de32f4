use Rattle.std.proofs.Common.{◌∙◌, ◌++◌, ◌∷◌, [], subst}
use Rattle.v1_bridge.specs.Reading.{front_piece}
use Rattle.old_runs.specs.Giving.{AppendsEvents}
use Rattle.old_runs.specs.Lines.{HasHeardLines}
use Rattle.old_runs.proofs.lines.OldLines.fill.Goals as goal

pub returns-clause-heard : goal.returns-clause-heard
returns-clause-heard c inputs given h =
    subst (λ bytes. AppendsEvents c.args.packets.now.items c.piece.new.packets.items (λ more. HasHeardLines c.piece.new.self (inputs ++ front_piece bytes ∷ []) (given ++ more))) (c.deref.ensures.value ∙ c.in_ok-extend_from_slice.ensures.items)
    (c.in_ok-piece.ensures.heard inputs given h)
