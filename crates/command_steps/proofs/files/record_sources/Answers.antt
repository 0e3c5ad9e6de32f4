use Rattle.std.proofs.Common.{[], refl, sym, ◌∙◌}
use Rattle.suite_run.specs.Aloud.{sinks}
use Rattle.suite_run.proofs.EarLemmas.{either_said, first_of_either, hears_none, second_of_either, since_none}
use Rattle.command_steps.specs.declared.live_lines.Silenced.{Silenced}
use Rattle.command_steps.proofs.SourceLemmas.{answer_step, answer_aloud, at_refusal, heard_nothing, sources_part}
use Rattle.command_steps.proofs.files.record_sources.Goals as goal

pub returns-clause-step : goal.returns-clause-step
returns-clause-step g c =
    let ear = c.record_heard-done.new.listener in
    let before = sinks (g.E.Sink.seen c.args.errors.now) (g.O.Sink.seen c.args.out.now) in
    let after = sinks (g.E.Sink.seen ear.errors.now) (g.O.Sink.seen ear.out.now) in
    let silenced : Silenced = record { errors = ear.errors_failed; out = ear.out_failed } in
    let first = hears_none [] c.args.shown _ before (rw c.new.ensures at c.new-2.ensures.gathers) c.new-2.ensures.none in
    answer_step c.args.shown _ refl before after silenced _ first _ _ _ c.args.names.now _ _ _ _ _ _ c.record_heard-done.ensures.rests (refl, refl, refl, since_none _ _ _ [] refl) _ (λ pieces heard. heard.3) c.record_heard-done.result c.record_heard-done.ensures.recorded _ c.answer_of.ensures

pub returns-clause-aloud : goal.returns-clause-aloud
returns-clause-aloud g c =
    let ear = c.record_heard-done.new.listener in
    let before = sinks (g.E.Sink.seen c.args.errors.now) (g.O.Sink.seen c.args.out.now) in
    let after = sinks (g.E.Sink.seen ear.errors.now) (g.O.Sink.seen ear.out.now) in
    let silenced : Silenced = record { errors = ear.errors_failed; out = ear.out_failed } in
    let first = hears_none [] c.args.shown _ before (rw c.new.ensures at c.new-2.ensures.gathers) c.new-2.ensures.none in
    let stops = c.record_heard-done.ensures.stops _ [] (heard_nothing _ _ (refl, refl, refl, since_none _ _ _ [] refl)) in
    let errors = sym (c.errors-1.given.1 (sym (first_of_either stops.holds)) ∙ c.hand_back.ensures) in
    let out = sym (c.out-1.given.1 (sym (second_of_either stops.holds)) ∙ c.hand_back-2.ensures) in
    rw errors at (rw out at (answer_aloud c.args.shown _ refl before after silenced _ first _ _ _ c.args.names.now _ _ _ _ _ _ c.record_heard-done.ensures.rests (refl, refl, refl, since_none _ _ _ [] refl) _ (λ pieces heard. heard.3) c.record_heard-done.result c.record_heard-done.ensures.recorded _ c.answer_of.ensures))

pub returns-clause-some : goal.returns-clause-some
returns-clause-some g c =
    let ear = c.record_heard-done.new.listener in
    let before = sinks (g.E.Sink.seen c.args.errors.now) (g.O.Sink.seen c.args.out.now) in
    let after = sinks (g.E.Sink.seen ear.errors.now) (g.O.Sink.seen ear.out.now) in
    let silenced : Silenced = record { errors = ear.errors_failed; out = ear.out_failed } in
    let first = hears_none [] c.args.shown _ before (rw c.new.ensures at c.new-2.ensures.gathers) c.new-2.ensures.none in
    let stops = c.record_heard-done.ensures.stops _ [] (heard_nothing _ _ (refl, refl, refl, since_none _ _ _ [] refl)) in
    let errors = sym (c.errors-1.given.1 (sym (first_of_either stops.holds)) ∙ c.hand_back.ensures) in
    let out = sym (c.out-1.given.1 (sym (second_of_either stops.holds)) ∙ c.hand_back-2.ensures) in
    rw errors at (rw out at (at_refusal _ c.answer_of.result (sources_part c.args.shown _ refl before after silenced _ first _ _ _ _ stops (λ pieces. either_said _ _ _ _ _ pieces))))
