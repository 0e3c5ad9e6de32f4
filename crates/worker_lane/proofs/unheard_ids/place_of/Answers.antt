use Rattle.std.proofs.Common.{◌≡◌, true, true≢false, Some, [], ap, sym, ◌∙◌}
use Rattle.std.proofs.lemmas.List.{get_or_read}
use Rattle.worker_lane.proofs.SoughtLemmas.{none_more, none_of_all}
use Rattle.worker_lane.proofs.unheard_ids.place_of.Goals as goal

pub loop-place-preserved : goal.loop-place-preserved
loop-place-preserved c = λ e spells.
    let below = c.loop-place-test.true in
    let there = get_or_read c.args.ids.now c.loop-place.place c.index-ids-place.result below c.index-ids-place.is [] in
    none_more c.args.ids.now c.loop-place.place e below
    (λ is. let found : c.has_id.result ≡ true = (c.has_id.ensures e spells).1 (is ∙ ap Some (sym there)) in absurd (true≢false (sym found ∙ c.if-has_id.false)))
    (c.loop-place.invariant e spells)

pub returns-clause-none : goal.returns-clause-none
returns-clause-none c = λ e spells. none_of_all c.args.ids.now c.loop-place.place e c.loop-place-test.false (c.loop-place.invariant e spells)
