use Rattle.std.proofs.Common.{◌≡◌, length, arith}
use Rattle.worker_mux.specs.Passes.{lane_count}
use Rattle.worker_mux.proofs.Adding.{passes_of_same, still_fits}
use Rattle.worker_mux.proofs.Merges.{heard_if, without_lanes}
use Rattle.worker_mux.proofs.run.run_lanes_heard.Goals as goal

pub returns-then-len-eq0-clause-merged : goal.returns-then-len-eq0-clause-merged
returns-then-len-eq0-clause-merged g c = λ no_fault.
    let none : length c.args.lanes.items ≡ 0 = omega (arith, c.len.ensures, c.if-len-eq0.true) in
    without_lanes g.C.Child.seen _ c.args.lanes.items _ none c.requires.nothing

pub returns-clause-any_moment : goal.returns-clause-any_moment
returns-clause-any_moment g c = passes_of_same _ _ c.read_all-listener.ensures.keeps.files

pub returns-clause-fits : goal.returns-clause-fits
returns-clause-fits g c = still_fits _ _ _ c.read_all-listener.ensures.keeps c.requires.fits

pub returns-clause-merged : goal.returns-clause-merged
returns-clause-merged g c =
    let count : lane_count c.in-Ok.stage.taker ≡ length c.args.lanes.items = omega (arith, c.in-Ok.ensures.taker.1) in
    heard_if g.C.Child.seen _ _ c.args.lanes.items c.begin-works.result.items _ _ _ _ c.requires.few c.requires.numbers count c.begin-works.ensures.shares c.read_all-listener.ensures.recorded
