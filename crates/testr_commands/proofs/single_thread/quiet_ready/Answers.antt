use Rattle.std.proofs.Common.{false, inl, sym, ap, ◌∙◌}
use Rattle.testr_words.specs.Tasks.{task_with, quiet_of}
use Rattle.testr_commands.proofs.CallLemmas.{never_both}
use Rattle.testr_commands.proofs.Performing.{quiet_load}
use Rattle.testr_commands.proofs.SparingLemmas.{silent_spare}
use Rattle.testr_commands.proofs.SpokenLemmas.{saying_plain, quiet_no_lines, quiet_no_stream, task_streams}
use Rattle.std.specs.Prelude.{option_map}
use Rattle.testr_commands.specs.Program.{Answers}
use Rattle.testr_commands.proofs.EndLemmas.{other_expected, task_adds}
use Rattle.testr_commands.proofs.single_thread.quiet_ready.Goals as goal

pub returns-in-Load : goal.returns-in-Load
returns-in-Load g c =
    let is = sym (quiet_load (g.F.Site.folder c.args.site.now) c.args.command.now) ∙ sym (ap (λ v. quiet_of (task_with (g.F.Site.folder c.args.site.now) v c.args.command.now)) c.in-Load.is) in
    record {
      answers = λ spawner. task_adds c.args.command.now.live (option_map (λ ids. ids.now) c.args.expected) _ _ _ is (c.load_named.ensures.answers spawner);
      spares = silent_spare (g.F.Site.folder c.args.site.now) c.args.command.now.verb c.args.command.now _ _ _ c.in-Load.is tt;
      streamed = task_streams c.args.command.now.subunit _ _ _ _ _ is c.load_named.ensures.streamed;
      silent = c.load_named.ensures.silent;
      heard = λ on. c.load_named.ensures.heard;
    }

pub returns-in_default : goal.returns-in_default
returns-in_default g c = record {
  answers = λ spawner. saying_plain _ _ _ _ _ _ (quiet_no_lines (g.F.Site.folder c.args.site.now) c.args.command.now.verb c.args.command.now c.in_default.not-Load) (other_expected (g.F.Site.folder c.args.site.now) c.args.command.now.verb c.args.command.now (option_map (λ ids. ids.now) c.args.expected) (Answers false (quiet_of (task_with (g.F.Site.folder c.args.site.now) c.args.command.now.verb c.args.command.now))) _ _ _ c.in_default.not-Load (record {
    outcome = c.perform-outcome.result;
    done = inl (c.perform-outcome.ensures.step (g.F.Site.folder c.args.site.now) _ spawner _);
    told = c.answer.ensures;
  }));
  spares = c.perform-outcome.ensures.spares (g.F.Site.folder c.args.site.now);
  streamed = λ on. absurd (never_both _ on (quiet_no_stream (g.F.Site.folder c.args.site.now) c.args.command.now.verb c.args.command.now c.in_default.not-Load));
  silent = λ is. absurd (never_both _ is c.requires.speaks.0);
  heard = λ on ok small. absurd (never_both _ on (quiet_no_stream (g.F.Site.folder c.args.site.now) c.args.command.now.verb c.args.command.now c.in_default.not-Load));
}
