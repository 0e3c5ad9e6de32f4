use Rattle.std.proofs.Common.{false, refl, sym, ◌∙◌}
use Rattle.testr_words.specs.Tasks.{task_of, quiet_of, forces_quiet, live_quiet}
use Rattle.command_steps.specs.Outside.{outside}
use Rattle.command_steps.specs.declared.answer.Refusal.TheVariants.{Init}
use Rattle.std.specs.Prelude.{option_map}
use Rattle.testr_commands.specs.Endings.{Begun, Readied, Adding}
use Rattle.testr_commands.specs.Forced.{PromisesBy}
use Rattle.testr_commands.specs.WholeCall.{PromisesEnding}
use Rattle.testr_commands.proofs.EndLemmas.{adding_to, adding_none, begun_readied, ready_readied}
use Rattle.testr_commands.specs.Program.{Answers}
use Rattle.testr_commands.proofs.CallLemmas.{never_both, told_refused}
use Rattle.testr_commands.proofs.ForceLemmas.{not_forced, forced_on, forced_not, made_ready, init_failed_as}
use Rattle.testr_commands.proofs.PromiseLemmas.{promises}
use Rattle.testr_commands.proofs.SparingLemmas.{quiet_spare}
use Rattle.testr_commands.proofs.SpokenLemmas.{saying_to, saying_none, no_packets_as}
use Rattle.testr_commands.proofs.single_thread.quiet_forced.Goals as goal

pub returns-then-not-forces_quietly : goal.returns-then-not-forces_quietly
returns-then-not-forces_quietly g c =
    let task = quiet_of (task_of (g.F.Site.folder c.args.site.now) c.args.command.now) in
    let expected = option_map (λ ids. ids.now) c.args.expected in
    let force = forces_quiet (g.F.Site.folder c.args.site.now) c.args.command.now in
    record {
      promises = λ spawner.
          saying_to (Adding Begun expected task (Answers false task)) (PromisesEnding force false expected task) _ _ _ _ _
          (λ errors told ended. adding_to Begun Readied (Answers false task) (PromisesBy force false task) _ _ _ _ _
          (λ told inner answered. not_forced force task _ _ inner (sym (c.forces_quietly.ensures (g.F.Site.folder c.args.site.now)) ∙ c.if-not-forces_quietly.true) (promises false task _ _ inner answered))
          (λ e text fails left. begun_readied e _ _ text fails left) refl expected task ended)
          (live_quiet (g.F.Site.folder c.args.site.now) c.args.command.now) task refl refl refl (c.quiet_ready.ensures.answers spawner);
      spares = c.quiet_ready.ensures.spares;
      streamed = c.quiet_ready.ensures.streamed;
      silent = c.quiet_ready.ensures.silent;
      heard = c.quiet_ready.ensures.heard;
    }

pub returns-in-Ok : goal.returns-in-Ok
returns-in-Ok g c =
    let task = quiet_of (task_of (g.F.Site.folder c.args.site.now) c.args.command.now) in
    let expected = option_map (λ ids. ids.now) c.args.expected in
    let force = forces_quiet (g.F.Site.folder c.args.site.now) c.args.command.now in
    let forced = sym (c.forces_quietly.ensures (g.F.Site.folder c.args.site.now)) ∙ c.if-not-forces_quietly.false in
    record {
      promises = λ spawner.
          saying_to (Adding Begun expected task (Answers false task)) (PromisesEnding force false expected task) _ _ _ _ _
          (λ errors told ended. adding_to Begun Readied (Answers false task) (PromisesBy force false task) _ _ _ _ _
          (λ told inner answered. forced_on c.args.command.now.force_init task _ _ _ inner forced (promises false task _ _ inner answered) (made_ready _ _ c.in-Ok.ensures refl))
          (λ e text fails left. ready_readied (outside (g.H.Shelf.seen c.args.shelf.now) (g.F.Site.seen c.args.site.now) spawner (g.I.Source.seen c.args.input.now) (g.O.Sink.seen c.args.out.now) (g.E.Sink.seen c.args.err.now)) (outside (g.H.Shelf.seen c.make_store_where_none.new.shelf) (g.F.Site.seen c.args.site.now) spawner (g.I.Source.seen c.args.input.now) (g.O.Sink.seen c.args.out.now) (g.E.Sink.seen c.args.err.now)) (made_ready _ _ c.in-Ok.ensures refl) e _ text fails left) refl expected task ended)
          (live_quiet (g.F.Site.folder c.args.site.now) c.args.command.now) task refl refl refl (c.quiet_ready-in-Ok.ensures.answers spawner);
      spares = quiet_spare c.args.command.now.force_init (task_of (g.F.Site.folder c.args.site.now) c.args.command.now) _ _ _ forced;
      streamed = c.quiet_ready-in-Ok.ensures.streamed;
      silent = c.quiet_ready-in-Ok.ensures.silent;
      heard = c.quiet_ready-in-Ok.ensures.heard;
    }

pub returns-in-Err : goal.returns-in-Err
returns-in-Err g c =
    let task = quiet_of (task_of (g.F.Site.folder c.args.site.now) c.args.command.now) in
    let expected = option_map (λ ids. ids.now) c.args.expected in
    let force = forces_quiet (g.F.Site.folder c.args.site.now) c.args.command.now in
    let forced = sym (c.forces_quietly.ensures (g.F.Site.folder c.args.site.now)) ∙ c.if-not-forces_quietly.false in
    let other = told_refused (Init c.in-Err.fault) _ c.answer.ensures.code in
    record {
      promises = λ spawner. saying_none (live_quiet (g.F.Site.folder c.args.site.now) c.args.command.now) task (PromisesEnding force false expected task) _ _ _ other (adding_none Readied expected task (PromisesBy force false task) _ _ _ other (forced_not c.args.command.now.force_init task _ _ _ forced (init_failed_as _ _ _ c.in-Err.fault c.answer.ensures refl c.in-Err.ensures)));
      spares = quiet_spare c.args.command.now.force_init (task_of (g.F.Site.folder c.args.site.now) c.args.command.now) _ _ _ forced;
      streamed = λ on. no_packets_as task _ _ _ _ c.requires.speaks.1 other;
      silent = λ is. absurd (never_both _ is c.requires.speaks.0);
      heard = λ on ok small. absurd (other small);
    }
