use Rattle.std.proofs.Common.{[], length, ap, subst, ◌∙◌}
use Rattle.edge_io.specs.Planned.{spawning_of}
use Rattle.edge_io.specs.Spawners.{Spawning}
use Rattle.outcome_fold.specs.Summed.{Sums}
use Rattle.testr_commands.proofs.SelfTestRows.{few_parts, drawn_in_turn}
use Rattle.testr_commands.proofs.selftest.drawn_summary.Goals as goal

pub drawn_plans-requires : goal.drawn_plans-requires
drawn_plans-requires g c =
    let few = few_parts c.args.drawing.lanes c.args.drawing.tests c.requires.few in
    record { some = few.some; few = few.few; most = few.most }

pub lane_jobs-requires : goal.lane_jobs-requires
lane_jobs-requires g c = (few_parts c.args.drawing.lanes c.args.drawing.tests c.requires.few).few

pub returns-in-Ok : goal.returns-in-Ok
returns-in-Ok g c =
    let (rows, sums, runs) = c.in-Ok.ensures in
    let drawn = drawn_in_turn c.args.drawing _ (spawning_of c.new-spawner.result) rows c.requires.few
    (ap (λ (s : Spawning). s.outputs) c.new-spawner.ensures.spawning ∙ c.in_ok-plans.ensures.outputs)
    (ap length c.deref.ensures.value ∙ c.in_ok-jobs.ensures.count)
    runs in
    subst (λ l. Sums [] l c.in-Ok.summary) drawn sums
