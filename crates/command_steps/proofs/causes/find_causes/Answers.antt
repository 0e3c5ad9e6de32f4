use Rattle.std.proofs.Common.{◌≡◌, ◌<◌, ◌∙◌, length, sym, refl, rules, arith}
use Rattle.command_steps.specs.Steps.{stops}
use Rattle.command_steps.proofs.FindingLemmas.{lists_suspects, finds_none, none_searched}
use Rattle.command_steps.proofs.StepLemmas.{still_done}
use Rattle.command_steps.proofs.causes.find_causes.Goals as goal

pub returns-in-Err-clause-step : goal.returns-in-Err-clause-step
returns-in-Err-clause-step g c = λ site input tags rows sums. stops c.in-Err.fault refl (record { says = record { suspects = tt }; same = refl })

pub returns-then-is_empty-clause-step : goal.returns-then-is_empty-clause-step
returns-then-is_empty-clause-step g c =
    let none : length c.in-Ok.suspects.items ≡ 0 = search rules in
    λ site input tags rows sums. still_done c.in-Ok.suspects.items (lists_suspects rows _ _ (c.failing.ensures tags rows sums) c.in-Ok.ensures) (finds_none _ _ _ _ none)

pub returns-in_default-clause-step : goal.returns-in_default-clause-step
returns-in_default-clause-step g c = λ site input tags rows sums. stops (record {}) refl (record { says = record { suspects = tt }; same = refl })

pub returns-clause-step : goal.returns-clause-step
returns-clause-step g c = λ site input tags rows sums.
    let name = sym (c.into_shelf.ensures.same_reference ∙ c.find_each-searched.ensures.same_reference ∙ c.attach-store.ensures.same_reference) in
    let tie = sym (c.shelf-1.given.1 name ∙ c.hand_back.ensures ∙ c.into_shelf.ensures.same) in
    still_done c.in-Ok.suspects.items (lists_suspects rows _ _ (c.failing.ensures tags rows sums) c.in-Ok.ensures)
    (rw c.deref.ensures.value at (rw tie at (rw c.attach-store.ensures.same at (c.find_each-searched.ensures.step site input))))

pub returns-clause-still : goal.returns-clause-still
returns-clause-still g c =
    let some : 0 < length c.in-Ok.suspects.items = search rules in
    λ tags rows sums passed. absurd (omega (arith, some, none_searched rows _ _ (c.failing.ensures tags rows sums) c.in-Ok.ensures passed))
