use Rattle.std.proofs.Common.{◌≡◌, ◌∙◌, ◌+◌, ◌-◌, ◌<◌, ◌++◌, ◌∷◌, List, map, drop, length, sym, ap, subst, arith}
use Rattle.std.proofs.lemmas.List.{drop_more}
use Rattle.last_failures.specs.declared.failures.Failure.{Failure}
use Rattle.last_failures.specs.Last.{failures_in}
use Rattle.last_failures.specs.Looking.{HasLookedUp, with_packets}
use Rattle.last_failures.proofs.FindLemmas.{none_looked, row_in_front}
use Rattle.last_failures.proofs.search_state.SearchState.take_rows.Goals as goal

pub loop-place-init : goal.loop-place-init
loop-place-init c = record {
  within = omega arith;
  looked = λ ids later packets held before. none_looked ids c.args.rows.now packets later _ _ _ (omega arith) before;
  fewer = λ id there. there;
}

pub loop-place-preserved : goal.loop-place-preserved
loop-place-preserved c =
    let rows = c.args.rows.now in
    let next = c.loop-place.place - 1 in
    let row = c.index-rows-place.result in
    let one_less : c.loop-place.place ≡ next + 1 = omega (arith, c.loop-place-test.true) in
    let below : next < length rows = omega (arith, c.loop-place-test.true, c.loop-place.invariant.within) in
    let here : drop next rows ≡ row ∷ drop (next + 1) rows = drop_more rows next row below ∙ ap (λ r. r ∷ drop (next + 1) rows) (sym c.index-rows-place.is) in
    record {
      within = omega (arith, c.loop-place.invariant.within);
      looked = λ ids later packets held before.
          subst (λ (l : List Failure). HasLookedUp ids l c.take_row.new.self.missing (failures_in c.take_row.new.self.found)) (row_in_front rows packets later c.loop-place.place next row one_less below here)
          (c.in_ok-take_row.ensures.looks ids (map (with_packets packets) (drop c.loop-place.place rows) ++ later) packets (λ there. held row (c.loop-place.invariant.fewer row.id there)) (c.loop-place.invariant.looked ids later packets held before));
      fewer = λ id there. c.loop-place.invariant.fewer id (c.in_ok-take_row.ensures.fewer id there);
    }

pub returns : goal.returns
returns c = λ ids later packets held before.
    let none : c.loop-place.place ≡ 0 = omega (arith, c.loop-place-test.false) in
    subst (λ n. HasLookedUp ids (map (with_packets packets) (drop n c.args.rows.now) ++ later) c.loop-place.self.missing (failures_in c.loop-place.self.found)) none (c.loop-place.invariant.looked ids later packets held before)
