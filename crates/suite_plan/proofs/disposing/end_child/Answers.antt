use Rattle.std.proofs.Common.{rules, ◌≡◌, pos, to_z, of_z, w32}
use Rattle.suite_plan.proofs.InstanceLemmas.{end_told}
use Rattle.suite_plan.proofs.disposing.end_child.Goals as goal

pub returns-in-Ok-clause-told : goal.returns-in-Ok-clause-told
returns-in-Ok-clause-told g c =
    let other : c.in-Ok.status ≡ pos 0 → ⊥ = search rules in
    let same : to_z w32 (of_z w32 c.in-Ok.status) ≡ c.in-Ok.status = search rules in
    end_told _ c.in-Ok.status _ _ same c.in-Ok.ensures.told other
