use Rattle.std.proofs.Common.{rules, ◌≡◌, pos, to_z, of_z, w32}
use Rattle.suite_plan.proofs.GatherLemmas.{failed_told}
use Rattle.suite_plan.proofs.test_listing.list_child.Goals as goal

pub returns-in-Ok-eq0-clause-distinct : goal.returns-in-Ok-eq0-clause-distinct
returns-in-Ok-eq0-clause-distinct g c =
    let took = c.in-Ok-eq0.ensures.took in
    c.into_ids.ensures.distinct took.0 (c.in_ok-close-in-Ok-eq0.ensures took.0 took.1)

pub returns-in-Ok-clause-told : goal.returns-in-Ok-clause-told
returns-in-Ok-clause-told g c =
    let other : c.in-Ok.status ≡ pos 0 → ⊥ = search rules in
    let same : to_z w32 (of_z w32 c.in-Ok.status) ≡ c.in-Ok.status = search rules in
    failed_told _ c.in-Ok.status _ c.read_to_end.new.taker _ same c.in-Ok.ensures.told (g.met.C.Child.are_bytes c.args.child.now) other
    (λ bytes are has. c.in_ok-told-in-Ok.ensures bytes are (c.in_ok-close-in-Ok.ensures bytes has))
