use Rattle.std.proofs.Common.{rules, ◌≡◌, [], true, refl}
use Rattle.suite_plan.proofs.InstanceLemmas.{none_of_empty}
use Rattle.suite_plan.proofs.provisioning.unless_none.Goals as goal

pub returns-then-is_empty : goal.returns-then-is_empty
returns-then-is_empty c =
    let same : c.list.result.now ≡ c.args.names = search rules in
    let empty : c.is_empty.result ≡ true = search rules in
    none_of_empty _ c.list.result.now _ same c.is_empty.ensures empty

pub returns : goal.returns
returns c =
    let some : c.args.names ≡ [] → ⊥ = search rules in
    (refl, some)
