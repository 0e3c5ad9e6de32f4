use Rattle.std.proofs.Common.{◌≡◌, ◌∙◌, refl, subst, ℕ, arith}
use Rattle.edge_io.specs.Steps.{Goes}
use Rattle.old_upgrade.specs.Recording.{HasConvertedTo}
use Rattle.old_upgrade.proofs.RunLemmas.{rests_so_far, goes_converted_more, goes_all_fail, goes_all_pass, goes_done_passes}
use Rattle.old_upgrade.proofs.conversion.convert_runs.Goals as goal

pub convert_run-requires-clause-rest : goal.convert_run-requires-clause-rest
convert_run-requires-clause-rest g c = rests_so_far _ _ _ c.loop-number.invariant.converted

pub returns-in-Err-clause-refused : goal.returns-in-Err-clause-refused
returns-in-Err-clause-refused g c =
    goes_all_fail c.args.count _ c.requires.found c.loop-number.number c.loop-number-test.true _ _ c.loop-number.invariant.converted c.in-Err.fault c.in-Err.ensures.refused

pub returns-in-Err-clause-any_moment : goal.returns-in-Err-clause-any_moment
returns-in-Err-clause-any_moment g c =
    goes_all_pass c.args.count _ c.requires.found c.loop-number.number c.loop-number-test.true _ _ c.loop-number.invariant.converted c.convert_run.ensures.any_moment

pub loop-number-preserved : goal.loop-number-preserved
loop-number-preserved g c = record {
  converted = goes_converted_more c.args.count _ c.requires.found c.loop-number.number c.loop-number-test.true _ _ c.loop-number.invariant.converted c.in-Ok.ensures.converted c.convert_run.ensures.any_moment;
  count = c.in-Ok.ensures.cause.stands refl ∙ c.loop-number.invariant.count;
}

pub returns-clause-converted : goal.returns-clause-converted
returns-clause-converted g c =
    let at : c.loop-number.number ≡ c.args.count = omega (arith, c.loop-number-test.false, c.loop-number.auto.number-end) in
    subst (λ (n : ℕ). Goes (g.H.Shelf.seen c.args.shelf.now).told (g.H.Shelf.seen c.loop-number.shelf).told (HasConvertedTo n)) at c.loop-number.invariant.converted

pub returns-clause-any_moment : goal.returns-clause-any_moment
returns-clause-any_moment g c =
    let at : c.loop-number.number ≡ c.args.count = omega (arith, c.loop-number-test.false, c.loop-number.auto.number-end) in
    goes_done_passes c.args.count _ c.requires.found _
    (subst (λ (n : ℕ). Goes (g.H.Shelf.seen c.args.shelf.now).told (g.H.Shelf.seen c.loop-number.shelf).told (HasConvertedTo n)) at c.loop-number.invariant.converted)
