use Rattle.std.proofs.Common.{Some, None, refl, sym, ap, subst, ◌∙◌}
use Rattle.std.specs.Prelude.{Option, option_map}
use Rattle.testr_words.specs.Tasks.{Task, task_of, expects, expects_quiet}
use Rattle.testr_commands.proofs.WholeLemmas.{not_expecting, expecting, expecting_not, same_task, QuietByTask, quiet_task, expected_spare}
use Rattle.testr_commands.proofs.single_thread.quiet.Goals as goal

pub returns-in-None : goal.returns-in-None
returns-in-None g c =
    let f = g.F.Site.folder c.args.site.now in
    record {
      promises = λ spawner. not_expecting (λ e. QuietByTask c.args.command.now e (task_of f c.args.command.now)) _ _ _ (expects_quiet f c.args.command.now) (sym (ap (option_map (λ name. name.now)) c.in-None.is) ∙ c.expected.ensures.quiet f) (c.quiet_read.ensures.promises spawner);
      spares = c.quiet_read.ensures.spares;
    }

pub returns-in-Ok : goal.returns-in-Ok
returns-in-Ok g c =
    let f = g.F.Site.folder c.args.site.now in
    let named = sym (ap (option_map (λ name. name.now)) c.in-Some.is) ∙ c.expected.ensures.spoken f in
    record {
      promises = λ spawner. expecting (λ e. QuietByTask c.args.command.now e (task_of f c.args.command.now)) _ _ _ c.in-Some.name.now (expects_quiet f c.args.command.now) _ _ (sym (ap (option_map (λ name. name.now)) c.in-Some.is) ∙ c.expected.ensures.quiet f) c.in-Ok.ensures
          (quiet_task c.args.command.now (Some c.in-Ok.ids) _ _ _ (same_task f _ c.in-Some.name.now c.args.command.now named) (c.quiet_read-in-Ok.ensures.promises spawner));
      spares = expected_spare f c.in-Some.name.now c.args.command.now _ _ _ named;
    }

pub returns-in-Err : goal.returns-in-Err
returns-in-Err g c =
    let f = g.F.Site.folder c.args.site.now in
    let named = sym (ap (option_map (λ name. name.now)) c.in-Some.is) ∙ c.expected.ensures.spoken f in
    record {
      promises = λ spawner. expecting_not (λ e. QuietByTask c.args.command.now e (task_of f c.args.command.now)) _ _ _ c.in-Some.name.now (expects_quiet f c.args.command.now) _ c.in-Err.refusal (sym (ap (option_map (λ name. name.now)) c.in-Some.is) ∙ c.expected.ensures.quiet f) c.in-Err.ensures refl c.answer.ensures;
      spares = expected_spare f c.in-Some.name.now c.args.command.now _ _ _ named;
    }
