use Rattle.std.proofs.Common.{sym, subst, OnOk, ◌++◌, ◌∷◌, []}
use Rattle.tap_bridge.specs.Grammar.{plan}
use Rattle.tap_bridge.specs.Events.{TapInput}
use Rattle.tap_bridge.specs.Kept.{HasTakenLines}
use Rattle.tap_bridge.proofs.ReadLemmas.{input_meant}
use Rattle.tap_bridge.proofs.reader.TapReader.take_line.Goals as goal

pub returns-in-Plan-clause-read : goal.returns-in-Plan-clause-read
returns-in-Plan-clause-read c before known =
    subst (λ (i : TapInput). OnOk c.take_plan.result (HasTakenLines c.take_plan.new.self (before ++ i ∷ [])))
    (sym (input_meant c.args.line.now c.without_return.result.now (plan c.in-Plan.plan) c.requires c.without_return.ensures.line c.in-Plan.ensures.meant)) (c.take_plan.ensures.read before known)
