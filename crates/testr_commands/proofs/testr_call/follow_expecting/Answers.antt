use Rattle.std.proofs.Common.{Some, None, refl, sym, ap, subst, ◌∙◌}
use Rattle.std.specs.Prelude.{Option, option_map}
use Rattle.testr_words.specs.Tasks.{Task, task_of, expects}
use Rattle.command_steps.specs.Outside.{outside}
use Rattle.testr_commands.proofs.WholeLemmas.{not_expecting, expecting, expecting_not, same_task, SaysByTask, says_task, expected_spare, expected_spares_run}
use Rattle.testr_commands.proofs.testr_call.follow_expecting.Goals as goal

pub returns-in-None : goal.returns-in-None
returns-in-None g c =
    let f = g.F.Site.folder c.args.site.now in
    record {
      promises = not_expecting (λ e. SaysByTask c.args.command.now e (task_of f c.args.command.now)) _ _ _ (expects f c.args.command.now) (sym (ap (option_map (λ name. name.now)) c.in-None.is) ∙ c.expected.ensures.spoken f) c.follow_warned.ensures.promises;
      spares = c.follow_warned.ensures.spares;
      spares_run = c.follow_warned.ensures.spares_run;
    }

pub returns-in-Ok : goal.returns-in-Ok
returns-in-Ok g c =
    let f = g.F.Site.folder c.args.site.now in
    let named = sym (ap (option_map (λ name. name.now)) c.in-Some.is) ∙ c.expected.ensures.spoken f in
    record {
      promises = expecting (λ e. SaysByTask c.args.command.now e (task_of f c.args.command.now)) _ _ _ c.in-Some.name.now (expects f c.args.command.now) _ _ named c.in-Ok.ensures
          (says_task c.args.command.now (Some c.in-Ok.ids) _ _ _ (same_task f _ c.in-Some.name.now c.args.command.now named) c.follow_warned-in-Ok.ensures.promises);
      spares = expected_spare f c.in-Some.name.now c.args.command.now _ _ _ named;
      spares_run = λ forced plain. expected_spares_run f c.in-Some.name.now c.args.command.now _ _ _ _ _ named;
    }

pub returns-in-Err : goal.returns-in-Err
returns-in-Err g c =
    let f = g.F.Site.folder c.args.site.now in
    let named = sym (ap (option_map (λ name. name.now)) c.in-Some.is) ∙ c.expected.ensures.spoken f in
    record {
      promises = expecting_not (λ e. SaysByTask c.args.command.now e (task_of f c.args.command.now)) _ _ _ c.in-Some.name.now (expects f c.args.command.now) _ c.in-Err.refusal named c.in-Err.ensures refl c.answer.ensures;
      spares = expected_spare f c.in-Some.name.now c.args.command.now _ _ _ named;
      spares_run = λ forced plain. expected_spares_run f c.in-Some.name.now c.args.command.now _ _ _ _ _ named;
    }
