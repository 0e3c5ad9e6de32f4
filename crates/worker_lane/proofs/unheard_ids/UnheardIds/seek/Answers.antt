use Rattle.std.proofs.Common.{◌≡◌, ◌<◌, ◌∙◌, Some, [], All, get_or, length, rules, sym, subst, ap}
use Rattle.std.proofs.lemmas.List.{get_or_read}
use Rattle.worker_lane.specs.Sought.{unheard_of}
use Rattle.worker_lane.proofs.SoughtLemmas.{taken_out, stays_heard, heard_one, heard_no_other}
use Rattle.worker_lane.proofs.unheard_ids.UnheardIds.seek.Goals as goal

pub invariant_of-self : goal.invariant_of-self
invariant_of-self c = (c.self.invariant.0, rw c.remove.ensures (stays_heard c.self.inside.unheard c.index.result.now c.self.inside.latest c.self.invariant.1))

pub returns-in-Some : goal.returns-in-Some
returns-in-Some c e spells more =
    let ids = c.self.inside.ids.items in
    let unheard = c.self.inside.unheard in
    let passed = c.self.inside.passed in
    let place = c.in-Some.place in
    let found : e.id ≡ Some (get_or c.deref.result.now place []) = rw (c.in-Some.is) at (c.place_of.ensures.found e spells) in
    let here : e.id ≡ Some (get_or ids place []) = found ∙ ap (λ l. Some (get_or l place [])) c.deref.ensures.value in
    let below : place < length ids = search rules in
    rw (← c.self.view_is) (
    ap (unheard_of ids passed) c.remove.ensures
    ∙ taken_out ids unheard passed c.index.result.now
    ∙ heard_one (unheard_of ids passed unheard) c.index.result.now e (here ∙ ap Some (sym (get_or_read ids place c.index.result.now below c.index.ensures []))) more
    )

pub returns-in_default : goal.returns-in_default
returns-in_default c e spells more =
    let none : All (λ id. e.id ≡ Some id → ⊥) c.deref.result.now = rw (c.in_default.is) at (c.place_of.ensures.none e spells) in
    rw (← c.self.view_is) (heard_no_other c.self.inside.ids.items c.self.inside.unheard c.self.inside.passed e (subst (All (λ id. e.id ≡ Some id → ⊥)) c.deref.ensures.value none))
