use Rattle.std.proofs.Common.{sym, ap, ◌∙◌}
use Rattle.testr_words.specs.Tasks.{task_with, streams_for}
use Rattle.testr_commands.proofs.CallLemmas.{of_asked, of_other, lists_not, lists_no_load, draws_not, draws_no_load, never_both}
use Rattle.testr_commands.proofs.Performing.{all_done}
use Rattle.testr_commands.proofs.SparingLemmas.{silent_spare}
use Rattle.testr_commands.proofs.SpokenLemmas.{saying_plain, run_streams, no_lines_of, no_stream_of, task_streams}
use Rattle.std.specs.Prelude.{option_map}
use Rattle.testr_commands.proofs.EndLemmas.{run_adds, list_adds, draw_adds, task_adds}
use Rattle.testr_commands.proofs.testr_call.follow_ready.Goals as goal

pub returns-in-Run : goal.returns-in-Run
returns-in-Run g c = record {
  answers = run_adds (g.F.Site.folder c.args.site.now) c.args.command.now (option_map (λ ids. ids.now) c.args.expected) _ _ _ c.in-Run.is (c.run_suite.ensures.answers _);
  spares = silent_spare (g.F.Site.folder c.args.site.now) c.args.command.now.verb c.args.command.now _ _ _ c.in-Run.is tt;
  spares_run = of_asked (sym (ap (λ v. task_with (g.F.Site.folder c.args.site.now) v c.args.command.now) c.in-Run.is)) _ _ _ _ _ c.run_suite.ensures.spares_run;
  streamed = run_streams (g.F.Site.folder c.args.site.now) c.args.command.now _ _ _ _ _ c.in-Run.is c.run_suite.ensures.streamed;
  silent = c.run_suite.ensures.silent;
  heard = λ on. c.run_suite.ensures.heard;
}

pub returns-in-ListTests : goal.returns-in-ListTests
returns-in-ListTests g c = record {
  answers = saying_plain _ _ _ _ _ _ (no_lines_of (g.F.Site.folder c.args.site.now) c.args.command.now.verb c.args.command.now (lists_not c.args.command.now.verb c.in-ListTests.is) (lists_no_load c.args.command.now.verb c.in-ListTests.is)) (list_adds (g.F.Site.folder c.args.site.now) c.args.command.now (option_map (λ ids. ids.now) c.args.expected) _ _ _ c.in-ListTests.is (c.list_suite.ensures _ _));
  spares = silent_spare (g.F.Site.folder c.args.site.now) c.args.command.now.verb c.args.command.now _ _ _ c.in-ListTests.is tt;
  spares_run = of_other (g.F.Site.folder c.args.site.now) c.args.command.now.verb c.args.command.now _ _ _ _ _ (lists_not c.args.command.now.verb c.in-ListTests.is);
  streamed = λ on. absurd (never_both _ on (no_stream_of (g.F.Site.folder c.args.site.now) c.args.command.now.verb c.args.command.now (lists_not c.args.command.now.verb c.in-ListTests.is) (lists_no_load c.args.command.now.verb c.in-ListTests.is)));
  silent = λ is. absurd (never_both _ is c.requires.speaks.0);
  heard = λ on ok small. absurd (never_both _ on (no_stream_of (g.F.Site.folder c.args.site.now) c.args.command.now.verb c.args.command.now (lists_not c.args.command.now.verb c.in-ListTests.is) (lists_no_load c.args.command.now.verb c.in-ListTests.is)));
}

pub returns-in-SelfTest : goal.returns-in-SelfTest
returns-in-SelfTest g c = record {
  answers = saying_plain _ _ _ _ _ _ (no_lines_of (g.F.Site.folder c.args.site.now) c.args.command.now.verb c.args.command.now (draws_not c.args.command.now.verb c.in-SelfTest.is) (draws_no_load c.args.command.now.verb c.in-SelfTest.is)) (draw_adds (g.F.Site.folder c.args.site.now) c.args.command.now (option_map (λ ids. ids.now) c.args.expected) _ _ _ c.in-SelfTest.is (c.test_itself.ensures _ _ _ _));
  spares = silent_spare (g.F.Site.folder c.args.site.now) c.args.command.now.verb c.args.command.now _ _ _ c.in-SelfTest.is tt;
  spares_run = of_other (g.F.Site.folder c.args.site.now) c.args.command.now.verb c.args.command.now _ _ _ _ _ (draws_not c.args.command.now.verb c.in-SelfTest.is);
  streamed = λ on. absurd (never_both _ on (no_stream_of (g.F.Site.folder c.args.site.now) c.args.command.now.verb c.args.command.now (draws_not c.args.command.now.verb c.in-SelfTest.is) (draws_no_load c.args.command.now.verb c.in-SelfTest.is)));
  silent = λ is. absurd (never_both _ is c.requires.speaks.0);
  heard = λ on ok small. absurd (never_both _ on (no_stream_of (g.F.Site.folder c.args.site.now) c.args.command.now.verb c.args.command.now (draws_not c.args.command.now.verb c.in-SelfTest.is) (draws_no_load c.args.command.now.verb c.in-SelfTest.is)));
}

pub returns-in_default : goal.returns-in_default
returns-in_default g c =
    let all = all_done (g.F.Site.folder c.args.site.now) c.args.command.now.verb c.args.command.now c.in_default.not-Run c.in_default.not-ListTests c.in_default.not-SelfTest in
    record {
      answers = task_adds c.args.command.now.live (option_map (λ ids. ids.now) c.args.expected) _ _ _ all (c.quiet_ready.ensures.answers _);
      spares = c.quiet_ready.ensures.spares;
      spares_run = of_other (g.F.Site.folder c.args.site.now) c.args.command.now.verb c.args.command.now _ _ _ _ _ c.in_default.not-Run;
      streamed = task_streams c.args.command.now.subunit _ _ _ _ _ all c.quiet_ready.ensures.streamed;
      silent = c.quiet_ready.ensures.silent;
      heard = λ on. c.quiet_ready.ensures.heard (ap (streams_for c.args.command.now.subunit) all ∙ on);
    }
