use Rattle.std.proofs.Common.{None, Some, false, inl, refl, ◌∙◌}
use Rattle.testr_words.specs.Suites.{run_options}
use Rattle.testr_words.specs.Tasks.{task_with}
use Rattle.testr_words.specs.declared.command.Verb.TheVariants.{Run}
use Rattle.command_steps.specs.Steps.{stops}
use Rattle.command_steps.specs.declared.answer.Refusal.TheVariants.{Conf}
use Rattle.testr_commands.specs.Endings.{Begun, EndsRun, Ends, Adding}
use Rattle.testr_commands.specs.Program.{Answers}
use Rattle.testr_commands.proofs.CallLemmas.{of_options, none_made, told_refused, never_both}
use Rattle.testr_commands.proofs.EndLemmas.{adding_none, left_ends, run_end, says_ended, spares_ended, lines_stand, silent_behind, packets_still}
use Rattle.testr_commands.proofs.SpokenLemmas.{saying_plain, saying_lines, saying_none, says_behind, lines_taken, packets_taken, echo_packets, rose_lines, rose_still, no_packets_as, some_kind}
use Rattle.command_steps.proofs.StepLemmas.{part_done}
use Rattle.testr_commands.proofs.testr_call.run_suite.Goals as goal

pub returns-in-Nothing : goal.returns-in-Nothing
returns-in-Nothing g c =
    let f = g.F.Site.folder c.args.site.now in
    let task = task_with f Run c.args.command.now in
    let code = c.answer_left-status.ensures.code in
    record {
      answers = λ input. saying_plain _ _ (Ends (Begun (EndsRun (run_options f c.args.command.now))) (Answers false task)) _ _ _ c.in-Nothing.is
          (left_ends (EndsRun (run_options f c.args.command.now)) task _ _ _ c.run-outcome.result _ _
          (inl (part_done _ _ c.in-Ok.ensures.step (c.run-outcome.ensures.step input)))
          c.answer_left-status.ensures.told
          (λ small. run_end f c.args.command.now _ _ _ _ _ _ c.in-Ok.ensures.step refl (c.run-outcome.ensures.left input small)));
      spares_run = of_options _ _ _ _ _ _ (spares_ended _ _ _ code _ _ _ _ _ _ c.run-outcome.ensures.calls);
      streamed = λ on. packets_taken _ _ _ _ _ _ _ (echo_packets _ on) (says_ended _ _ _ code _ _ _ _ _ _ c.run-outcome.ensures.says);
      silent = c.answer_left-status.ensures.rose;
      heard = c.answer_left-status.ensures.stands;
    }

pub returns-in-Ok : goal.returns-in-Ok
returns-in-Ok g c =
    let f = g.F.Site.folder c.args.site.now in
    let task = task_with f Run c.args.command.now in
    let code = c.answer_left_behind.ensures.code in
    let says = says_ended _ _ _ code _ _ _ _ _ _ c.run-outcome-in-Tests.ensures.says in
    let taken = lines_taken _ _ _ _ _ _ _ says _ refl in
    record {
      answers = λ input. saying_lines _ _ (Ends (Begun (EndsRun (run_options f c.args.command.now))) (Answers false task)) _ _ _ (some_kind _ c.in-Tests.is) (says_behind _ _ _ _ _ _ _ taken
          (λ well. left_ends (EndsRun (run_options f c.args.command.now)) task _ _ _ c.run-outcome-in-Tests.result _ _
          (inl (part_done _ _ c.in-Ok.ensures.step (c.run-outcome-in-Tests.ensures.step input)))
          (c.answer_left_behind.ensures.spoken well)
          (λ small. run_end f c.args.command.now _ _ _ _ _ _ c.in-Ok.ensures.step refl (c.run-outcome-in-Tests.ensures.left input small)))
          (λ deaf. (
            (c.answer_left_behind.ensures.deaf deaf).0,
            left_ends (EndsRun (run_options f c.args.command.now)) task _ _ _ c.run-outcome-in-Tests.result _ _
                (inl (part_done _ _ c.in-Ok.ensures.step (c.run-outcome-in-Tests.ensures.step input)))
                (c.answer_left_behind.ensures.deaf deaf).1
                (λ small. run_end f c.args.command.now _ _ _ _ _ _ c.in-Ok.ensures.step refl (c.run-outcome-in-Tests.ensures.left input small)),
          )));
      spares_run = of_options _ _ _ _ _ _ (spares_ended _ _ _ code _ _ _ _ _ _ c.run-outcome-in-Tests.ensures.calls);
      streamed = λ on. packets_still task _ _ _ _ _ _ c.answer_left_behind.ensures.out (packets_taken _ _ _ _ _ _ _ (echo_packets _ on) says);
      silent = λ is. silent_behind (g.E.Sink.seen c.args.err.now) _ _ _ _ _ _ _ taken c.answer_left_behind.ensures.deaf c.answer_left_behind.ensures.rose is;
      heard = λ ok small. (c.answer_left_behind.ensures.stands ok small).1 ∙ lines_stand _ _ _ _ _ _ _ taken (c.answer_left_behind.ensures.stands ok small).0;
    }

pub returns : goal.returns
returns g c =
    let other = told_refused (Conf c.in-Err.refusal) _ c.answer.ensures.code in
    record {
      answers = λ input. saying_none _ _ (Adding Begun None (task_with (g.F.Site.folder c.args.site.now) Run c.args.command.now) (Answers false _)) _ _ _ other
          (adding_none Begun None (task_with (g.F.Site.folder c.args.site.now) Run c.args.command.now) (Answers false _) _ _ _ other (record {
            outcome = _;
            done = inl (stops c.in-Err.refusal refl (record { at = c.in-Err.ensures.step; rest = refl }));
            told = c.answer.ensures;
          }));
      spares_run = none_made _ _ _ _ _ _ other refl;
      streamed = λ on. no_packets_as (task_with (g.F.Site.folder c.args.site.now) Run c.args.command.now) _ (g.H.Shelf.seen c.args.shelf.now).told (g.P.Sink.seen c.args.stream.now) _ c.requires.speaks.1 other;
      silent = λ is. absurd (never_both _ is c.requires.speaks.0);
      heard = λ ok small. absurd (other small);
    }
