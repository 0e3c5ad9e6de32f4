use Rattle.std.proofs.Common.{◌≡◌, [], ◌∷◌}
use Rattle.std.specs.Option.{option_map}
use Rattle.worker_lane.specs.Lanes.{rest}
use Rattle.worker_lane.specs.Rest.{lots_asked}
use Rattle.suite_causes.proofs.ProbeLemmas.{told_probe}
use Rattle.suite_causes.proofs.probe_run.read_probe.Goals as goal

pub returns-in-Ok : goal.returns-in-Ok
returns-in-Ok g c =
    let left : rest g.C.Child.seen c.in-Ok.lane ≡ option_map (lots_asked 0 (c.args.test.now ∷ [])) (g.C.Child.seen c.args.child).told = rw (← c.from_ref.ensures.value) c.in-Ok.ensures.rest in
    record {
      told = told_probe (g.C.Child.seen c.args.child).told c.args.test.now (rest g.C.Child.seen c.in-Ok.lane) c.read_lane.result (g.met.C.Child.are_bytes c.args.child) (g.met.C.Child.has_finish c.args.child) left c.read_lane.ensures.told;
    }
