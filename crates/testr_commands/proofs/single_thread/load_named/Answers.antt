use Rattle.std.proofs.Common.{false, inl, ap, sym, length, arith}
use Rattle.testr_words.specs.Tasks.{task_with, live_for}
use Rattle.testr_words.specs.declared.command.Verb.TheVariants.{Load}
use Rattle.command_steps.specs.declared.answer.Refusal.TheVariants.{Usage}
use Rattle.command_steps.specs.declared.usage.UsageFault.TheVariants.{Words}
use Rattle.testr_commands.specs.Program.{Answers}
use Rattle.testr_commands.proofs.CallLemmas.{told_refused, never_both}
use Rattle.testr_commands.proofs.Performing.{refuses, too_many, few_enough}
use Rattle.testr_commands.proofs.SpokenLemmas.{saying_none, no_packets_as, task_streams}
use Rattle.std.specs.Prelude.{option_map}
use Rattle.testr_commands.specs.Endings.{Begun, Adding}
use Rattle.testr_commands.proofs.EndLemmas.{adding_none, task_adds}
use Rattle.testr_commands.proofs.single_thread.load_named.Goals as goal

pub returns-then-list-gt-MOST_FILES : goal.returns-then-list-gt-MOST_FILES
returns-then-list-gt-MOST_FILES g c =
    let task = task_with (g.F.Site.folder c.args.site.now) Load c.args.command.now in
    let expected = option_map (λ ids. ids.now) c.args.expected in
    let other = told_refused (Usage Words) _ c.answer.ensures.code in
    record {
      answers = λ spawner. saying_none (live_for c.args.command.now.live task) task (Adding Begun expected task (Answers false task)) _ _ _ other (adding_none Begun expected task (Answers false task) _ _ _ other (record {
        outcome = _;
        done = inl (refuses _ (too_many (g.F.Site.folder c.args.site.now) c.args.command.now (omega (arith, c.if-list-gt-MOST_FILES.true, ap length c.list.ensures))));
        told = c.answer.ensures;
      }));
      streamed = λ on. no_packets_as task _ _ _ _ c.requires.speaks.1 other;
      silent = λ is. absurd (never_both _ is c.requires.speaks.0);
      heard = λ ok small. absurd (other small);
    }

pub returns : goal.returns
returns g c =
    let is = sym (few_enough (g.F.Site.folder c.args.site.now) c.args.command.now (omega (arith, c.if-list-gt-MOST_FILES.false, ap length c.list.ensures))) in
    record {
      answers = λ spawner. task_adds c.args.command.now.live (option_map (λ ids. ids.now) c.args.expected) _ _ _ is (c.load_aloud.ensures.answers spawner);
      streamed = task_streams c.args.command.now.subunit _ _ _ _ _ is c.load_aloud.ensures.streamed;
      silent = c.load_aloud.ensures.silent;
      heard = c.load_aloud.ensures.heard;
    }
