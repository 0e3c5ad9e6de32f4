use Rattle.std.proofs.Common.{[], ◌∙◌, refl, sym}
use Rattle.suite_run.specs.Aloud.{sinks}
use Rattle.suite_run.specs.declared.run_listener.Said.{Said}
use Rattle.suite_run.proofs.EarLemmas.{either_said, first_of_either, hears_none, second_of_either, since_none}
use Rattle.suite_run.proofs.HeardLemmas.{decided, lanes_summed, only_aloud, only_sums, refused_aloud, sums_aloud}
use Rattle.suite_run.proofs.lane_recorder.record_lanes.Goals as goal

pub run_lanes_heard-ear-requires-clause-nothing : goal.run_lanes_heard-ear-requires-clause-nothing
run_lanes_heard-ear-requires-clause-nothing g c κs within = (refl, refl, refl, since_none _ _ _ [] refl)

pub returns-clause-step : goal.returns-clause-step
returns-clause-step g c =
    let tie = sym (c.shelf-1.given.1 (sym c.run_lanes_heard-ear.ensures.same_reference) ∙ c.hand_back.ensures) in
    let first = hears_none c.args.filter_tags c.args.shown _ (sinks (g.E.Sink.seen c.args.errors.now) (g.O.Sink.seen c.args.out.now)) c.new.ensures.gathers c.new.ensures.none in
    let aloud = sums_aloud c.args.filter_tags c.args.shown _ _ _ _ _ _ _ _ _ _ _ _ _ _ c.run_lanes_heard-ear.ensures.merged c.answer_of-end.ensures refl first (λ pieces heard. heard.3) in
    rw tie at (lanes_summed _ _ _ _ _ _ _ _ (decided _ _ _ _ _ c.answer_of-end.ensures) c.run_lanes_heard-ear.ensures.keeps (only_sums _ _ _ _ _ _ _ _ _ aloud))

pub returns-clause-aloud : goal.returns-clause-aloud
returns-clause-aloud g c =
    let tie = sym (c.shelf-1.given.1 (sym c.run_lanes_heard-ear.ensures.same_reference) ∙ c.hand_back.ensures) in
    let errors = sym (c.errors-1.given.1 (sym (first_of_either c.run_lanes_heard-ear.ensures.handed.holds)) ∙ c.hand_back_sink.ensures) in
    let out = sym (c.out-1.given.1 (sym (second_of_either c.run_lanes_heard-ear.ensures.handed.holds)) ∙ c.hand_back_sink-2.ensures) in
    let first = hears_none c.args.filter_tags c.args.shown _ (sinks (g.E.Sink.seen c.args.errors.now) (g.O.Sink.seen c.args.out.now)) c.new.ensures.gathers c.new.ensures.none in
    let aloud = sums_aloud c.args.filter_tags c.args.shown _ _ _ _ _ _ _ _ _ _ _ _ _ _ c.run_lanes_heard-ear.ensures.merged c.answer_of-end.ensures refl first (λ pieces heard. heard.3) in
    let said : Said = record { end = c.answer_of-end.result.0; errors_failed = c.run_lanes_heard-ear.result.0.errors_failed; out_failed = c.run_lanes_heard-ear.result.0.out_failed } in
    rw tie at (rw errors at (rw out at (only_aloud _ _ _ _ _ _ _ said _ aloud)))

pub returns-clause-begun : goal.returns-clause-begun
returns-clause-begun g c =
    let tie = sym (c.shelf-1.given.1 (sym c.run_lanes_heard-ear.ensures.same_reference) ∙ c.hand_back.ensures) in
    let errors = sym (c.errors-1.given.1 (sym (first_of_either c.run_lanes_heard-ear.ensures.handed.holds)) ∙ c.hand_back_sink.ensures) in
    let out = sym (c.out-1.given.1 (sym (second_of_either c.run_lanes_heard-ear.ensures.handed.holds)) ∙ c.hand_back_sink-2.ensures) in
    let first = hears_none c.args.filter_tags c.args.shown _ (sinks (g.E.Sink.seen c.args.errors.now) (g.O.Sink.seen c.args.out.now)) c.new.ensures.gathers c.new.ensures.none in
    let said : Said = record { end = c.answer_of-end.result.0; errors_failed = c.run_lanes_heard-ear.result.0.errors_failed; out_failed = c.run_lanes_heard-ear.result.0.out_failed } in
    rw tie at (rw errors at (rw out at (refused_aloud c.args.filter_tags c.args.shown _ _ _ _ said _ _ _ _ _ _ _ _ c.run_lanes_heard-ear.ensures.handed c.answer_of-end.ensures refl first (λ pieces. either_said _ _ _ _ _ pieces))))
