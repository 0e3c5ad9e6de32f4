use Rattle.std.proofs.Common.{◌≡◌, ◌∷◌, ◌++◌, ◌+◌, [], take, drop, map, refl, sym, ap, subst, ◌∙◌, length, arith}
use Rattle.std.proofs.lemmas.List.{take_more, take-append-drop, at_drop_more, length-map}
use Rattle.edge_io.specs.Steps.{Goes}
use Rattle.suite_run.specs.Starting.{HasStarted}
use Rattle.suite_run.proofs.StartLemmas.{one_longer, numbers_next, nothing_started, starts_more, handed_on, sum_after, some_more}
use Rattle.suite_run.proofs.lane_starter.start_each.Goals as goal
use Rattle.worker_lane.specs.Lanes.{rest, lane_number}
use Rattle.worker_mux.specs.Outputs.{ids_at}

pub loop-job-init : goal.loop-job-init
loop-job-init g c = record {
  numbers = rw (c.requires.none) refl;
  count = ap length c.requires.none;
  started = nothing_started (rest g.S.Child.Child.seen) _ c.args.jobs.now c.args.asked.now _ c.requires.texts c.requires.none;
  sum = refl;
}

pub start_next-requires-clause-few : goal.start_next-requires-clause-few
start_next-requires-clause-few g c = omega (arith, c.loop-job.invariant.count, c.requires.few, c.loop-job-test.true)

pub loop-job-preserved : goal.loop-job-preserved
loop-job-preserved g c =
    let jobs = c.args.jobs.now in
    let index = c.loop-job.job-index in
    let next = c.in_ok-start_next.ensures in
    let before = c.loop-job.invariant in
    let lanes = map (rest g.S.Child.Child.seen) c.start_next.new.lanes.items in
    let place : c.len.result ≡ length c.loop-job.lanes.items = omega (arith, c.len.ensures) in
    record {
      numbers = numbers_next lane_number _ _ next.number before.numbers;
      count = omega (arith, one_longer lane_number _ _ next.number, before.count);
      started = subst (λ l. Goes (g.S.Spawner.seen c.args.spawner.now).told (g.S.Spawner.seen c.start_next.new.spawner).told (HasStarted l c.args.asked.now lanes))
          (ap (λ n. take index jobs ++ n ∷ []) c.job-item.is ∙ sym (take_more jobs index c.job-item.result (grind arith)))
          (starts_more (take index jobs) _ c.args.asked.now _ _ lanes _ _ _ (c.ids_at-ids.ensures ∙ ap (ids_at c.args.asked.now) (place ∙ sym (length-map c.loop-job.lanes.items (rest g.S.Child.Child.seen)))) before.started next.started);
      sum = next.sum.stands refl ∙ before.sum;
    }

pub returns-in_err-start_next-clause-refused : goal.returns-in_err-start_next-clause-refused
returns-in_err-start_next-clause-refused g c =
    let jobs = c.args.jobs.now in
    let index = c.loop-job.job-index in
    handed_on _ _ _ c.from_residual.ensures.1
    (some_more jobs (take index jobs) _ (drop (index + 1) jobs) _ _ _ _ _ _
    (sym (take-append-drop index jobs) ∙ ap (λ l. take index jobs ++ l) (at_drop_more (λ l. l) jobs index c.job-item.result (grind arith)) ∙ ap (λ n. take index jobs ++ n ∷ drop (index + 1) jobs) (sym c.job-item.is))
    c.loop-job.invariant.started
    c.in_err-start_next.ensures.refused)

pub returns-in_err-start_next-clause-sum : goal.returns-in_err-start_next-clause-sum
returns-in_err-start_next-clause-sum g c = sum_after _ _ _ _ _ c.loop-job.invariant.sum c.from_residual.ensures.1 c.in_err-start_next.ensures.sum
