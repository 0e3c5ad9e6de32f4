use Rattle.std.proofs.Common.{false, inl, refl, ◌∙◌}
use Rattle.std.specs.Prelude.{Some, option_map}
use Rattle.testr_words.specs.Suites.{load_options}
use Rattle.testr_words.specs.Tasks.{load}
use Rattle.testr_commands.specs.Endings.{Begun, AddingLoad, LeavesLoadEnd, EndsLoad}
use Rattle.testr_commands.specs.Program.{Answers}
use Rattle.testr_commands.proofs.EndLemmas.{expected_ends, expected_left, says_coded, lines_stand, silent_behind, packets_still}
use Rattle.testr_commands.proofs.SpokenLemmas.{saying_plain, saying_lines, says_behind, lines_taken, packets_taken, echo_packets, some_kind}
use Rattle.testr_commands.proofs.single_thread.load_aloud.Goals as goal

pub returns-in-Nothing : goal.returns-in-Nothing
returns-in-Nothing g c =
    let expected = option_map (λ ids. ids.now) c.args.expected in
    let options = load_options c.args.command.now in
    let task = Some (load options c.args.command.now.names) in
    record {
      answers = λ spawner. saying_plain _ task (AddingLoad Begun expected options.partial (Answers false task)) _ _ _ c.in-Nothing.is
          (expected_ends expected options.partial task _ _ _ c.load-outcome.result _ _ (inl (c.load-outcome.ensures.step spawner)) (c.answer_expected.ensures.spoken refl)
          (expected_left c.args.expected options c.args.command.now.names _ _ _ _ _ c.load-outcome.ensures.left spawner));
      streamed = λ on. packets_still task _ _ _ _ _ _ c.answer_expected.ensures.out (packets_taken _ _ _ _ _ _ _ (echo_packets _ on) (says_coded _ _ _ _ _ _ _ _ c.answer_expected.ensures.code c.load-outcome.ensures.says));
      silent = λ is. c.answer_expected.ensures.rose refl is;
      heard = λ ok small. (c.answer_expected.ensures.stands ok small).1;
    }

pub returns : goal.returns
returns g c =
    let expected = option_map (λ ids. ids.now) c.args.expected in
    let options = load_options c.args.command.now in
    let task = Some (load options c.args.command.now.names) in
    let says = says_coded _ _ _ _ _ _ _ _ c.answer_expected-in-Tests.ensures.code c.load-outcome-in-Tests.ensures.says in
    let taken = lines_taken _ _ _ _ _ _ _ says _ refl in
    let left = expected_left c.args.expected options c.args.command.now.names _ _ _ _ _ c.load-outcome-in-Tests.ensures.left in
    record {
      answers = λ spawner. saying_lines _ task (AddingLoad Begun expected options.partial (Answers false task)) _ _ _ (some_kind _ c.in-Tests.is) (says_behind _ _ _ _ _ _ _ taken
          (λ well. expected_ends expected options.partial task _ _ _ c.load-outcome-in-Tests.result _ _ (inl (c.load-outcome-in-Tests.ensures.step spawner)) (c.answer_expected-in-Tests.ensures.spoken well) (left spawner))
          (λ deaf. ((c.answer_expected-in-Tests.ensures.deaf deaf).0, expected_ends expected options.partial task _ _ _ c.load-outcome-in-Tests.result _ _ (inl (c.load-outcome-in-Tests.ensures.step spawner)) (c.answer_expected-in-Tests.ensures.deaf deaf).1 (left spawner))));
      streamed = λ on. packets_still task _ _ _ _ _ _ c.answer_expected-in-Tests.ensures.out (packets_taken _ _ _ _ _ _ _ (echo_packets _ on) says);
      silent = λ is. silent_behind (g.E.Sink.seen c.args.err.now) _ _ _ _ _ _ _ taken c.answer_expected-in-Tests.ensures.deaf c.answer_expected-in-Tests.ensures.rose is;
      heard = λ ok small. (c.answer_expected-in-Tests.ensures.stands ok small).1 ∙ lines_stand _ _ _ _ _ _ _ taken (c.answer_expected-in-Tests.ensures.stands ok small).0;
    }
