use Rattle.std.proofs.Common.{inl, inr, refl, sym, ap, ◌∙◌}
use Rattle.testr_words.specs.Tasks.{task_of}
use Rattle.testr_words.specs.Words.{and_then, forces_first, streams_then}
use Rattle.testr_commands.proofs.WholeLemmas.{anywhere_by, five_here, none_here, read_none, read_not}
use Rattle.command_steps.specs.declared.answer.Refusal.TheVariants.{Usage, Memory}
use Rattle.command_steps.specs.declared.usage.UsageFault.TheVariants.{Words}
use Rattle.testr_commands.proofs.CallLemmas.{of_asked, none_made, told_refused}
use Rattle.testr_commands.proofs.Performing.{refuses, gives_up}
use Rattle.testr_commands.proofs.SparingLemmas.{none_spare, read_spare}
use Rattle.testr_commands.proofs.testr_call.testr_as.Goals as goal

pub returns-in-Ok-Some : goal.returns-in-Ok-Some
returns-in-Ok-Some g c =
    let named = ap (λ o. and_then o (task_of (g.F.Site.folder c.args.site.now))) (sym c.in-Ok-Some.field-0-is ∙ c.in-Ok-Some.ensures) in
    let forced = ap (forces_first (g.F.Site.folder c.args.site.now)) (sym c.in-Ok-Some.field-0-is ∙ c.in-Ok-Some.ensures) in
    let streamed = ap (streams_then (g.F.Site.folder c.args.site.now)) (sym c.in-Ok-Some.field-0-is ∙ c.in-Ok-Some.ensures) in
    record {
      promises = anywhere_by (g.F.Site.folder c.args.site.now) c.in-Ok-Some.command _ _ _ _ (sym c.in-Ok-Some.field-0-is ∙ c.in-Ok-Some.ensures) c.follow_anywhere.ensures.promises;
      spares = read_spare named _ _ _ c.follow_anywhere.ensures.spares;
      spares_run = λ plain whole. of_asked named _ _ _ _ _ (c.follow_anywhere.ensures.spares_run (forced ∙ plain) (streamed ∙ whole));
    }

pub returns-in-Ok-None : goal.returns-in-Ok-None
returns-in-Ok-None g c =
    let named = ap (λ o. and_then o (task_of (g.F.Site.folder c.args.site.now))) (sym c.in-Ok-None.field-0-is ∙ c.in-Ok-None.ensures) in
    record {
      promises = inl (read_none (g.F.Site.folder c.args.site.now) _ _ _ _ (sym c.in-Ok-None.field-0-is ∙ c.in-Ok-None.ensures) (record { outcome = _; done = inl (refuses _ refl); told = c.answer.ensures }), none_here (g.F.Site.folder c.args.site.now) _ _ _ (sym c.in-Ok-None.field-0-is ∙ c.in-Ok-None.ensures));
      spares = none_spare _ _ _ _ refl;
      spares_run = λ plain whole. none_made _ _ _ _ _ _ (told_refused (Usage Words) _ c.answer.ensures.code) refl;
    }

pub returns-in-Err : goal.returns-in-Err
returns-in-Err g c = record {
  promises = inl (read_not _ _ _ _ _ _ _ _ _ _ _ (gives_up _ c.in-Err.fault) c.answer-in-Err.ensures, five_here (g.F.Site.folder c.args.site.now) _ _ _ c.answer-in-Err.ensures.code);
  spares = none_spare _ _ _ _ refl;
  spares_run = λ plain whole. none_made _ _ _ _ _ _ (told_refused (Memory c.in-Err.fault) _ c.answer-in-Err.ensures.code) refl;
}
