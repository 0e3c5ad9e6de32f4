use Rattle.std.proofs.Common.{rules, ◌≡◌, ◌∙◌, ap, pos}
use Rattle.suite_plan.specs.Calling.{called_number}
use Rattle.suite_plan.proofs.CallLemmas.{number_told, none_told, status_told}
use Rattle.suite_plan.proofs.count_command.count_child.Goals as goal

pub returns-in-Some-clause-told : goal.returns-in-Some-clause-told
returns-in-Some-clause-told g c =
    let zero : c.in-Ok-eq0.field-0 ≡ pos 0 = search rules in
    number_told _ _ c.read_to_end.new.taker _ _ c.in-Ok-eq0.ensures.told zero (c.number_told.ensures ∙ ap called_number c.bytes.ensures) c.in-Some.is

pub returns-in-Ok-eq0-clause-told : goal.returns-in-Ok-eq0-clause-told
returns-in-Ok-eq0-clause-told g c = none_told _ _ c.read_to_end.new.taker _ _ c.in-Ok-eq0.ensures.told (c.number_told.ensures ∙ ap called_number c.bytes.ensures) c.in-None.is c.in_ok-into_told-in-None.ensures

pub returns-in-Ok-clause-told : goal.returns-in-Ok-clause-told
returns-in-Ok-clause-told g c =
    let other : c.in-Ok.field-0 ≡ pos 0 → ⊥ = search rules in
    status_told _ c.in-Ok.field-0 c.read_to_end.new.taker _ c.in-Ok.ensures.told other c.in_ok-into_told-in-Ok.ensures
