use Rattle.std.proofs.Common.{◌++◌, ◌∷◌, [], sym, subst}
use Rattle.v1_bridge.specs.Reading.{last_input}
use Rattle.old_runs.specs.Giving.{AppendsEvents}
use Rattle.old_runs.specs.Lines.{HasHeardLines}
use Rattle.old_runs.proofs.lines.OldLines.take_rest.Goals as goal

pub returns-then-self-clause-heard : goal.returns-then-self-clause-heard
returns-then-self-clause-heard c inputs given h =
    subst (λ input. AppendsEvents c.args.packets.now.items c.piece.new.packets.items (λ more. HasHeardLines c.piece.new.self (inputs ++ input ∷ []) (given ++ more))) (λ i. last_input (sym c.if-self.true i) (c.deref.ensures.value i))
    (c.in_ok-piece.ensures.heard inputs given h)

pub returns-clause-heard : goal.returns-clause-heard
returns-clause-heard c inputs given h =
    subst (λ input. AppendsEvents c.args.packets.now.items c.line.new.packets.items (λ more. HasHeardLines c.line.new.self (inputs ++ input ∷ []) (given ++ more))) (λ i. last_input (sym c.if-self.false i) (c.deref-2.ensures.value i))
    (c.in_ok-line.ensures.heard inputs given h)
