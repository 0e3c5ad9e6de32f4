use Rattle.std.proofs.Common.{false}
use Rattle.testr_words.specs.declared.command.Question.TheVariants.{Last, Skips, Notes, Failing, LastFailures, FailurePackets, Slowest, Stats}
use Rattle.command_steps.proofs.TellLemmas.{answers_so, answers_where, is_report}
use Rattle.command_steps.proofs.question_answers.answer_of.Goals as goal

pub returns-in-Last-clause-told : goal.returns-in-Last-clause-told
returns-in-Last-clause-told g c = answers_so (Last false) c.args.question _ _ c.tell_report.result (is_report c.args.question c.in-Last.subunit c.in-Last.is c.requires.text) (c.requires.fits c.requires.open) c.tell_report.ensures.told

pub returns-in-Skips-clause-told : goal.returns-in-Skips-clause-told
returns-in-Skips-clause-told g c = answers_so Skips c.args.question _ _ c.tell_skips.result (c.in-Skips.is) (c.requires.fits c.requires.open) c.tell_skips.ensures.told

pub returns-in-Notes-clause-told : goal.returns-in-Notes-clause-told
returns-in-Notes-clause-told g c = answers_so (Notes c.in-Notes.skips) c.args.question _ _ c.tell_notes.result (c.in-Notes.is) (c.requires.fits c.requires.open) c.tell_notes.ensures.told

pub returns-in-Failing-clause-told : goal.returns-in-Failing-clause-told
returns-in-Failing-clause-told g c = answers_where (Failing c.in-Failing.list) c.args.question _ _ c.tell_failing.result (c.in-Failing.is) (c.requires.fits c.requires.open) c.tell_failing.ensures.told

pub returns-in-LastFailures-clause-told : goal.returns-in-LastFailures-clause-told
returns-in-LastFailures-clause-told g c = answers_where LastFailures c.args.question _ _ c.tell_last_failures.result (c.in-LastFailures.is) (c.requires.fits c.requires.open) c.tell_last_failures.ensures.told

pub returns-in-FailurePackets-clause-told : goal.returns-in-FailurePackets-clause-told
returns-in-FailurePackets-clause-told g c = answers_where FailurePackets c.args.question _ _ c.tell_failure_packets.result (c.in-FailurePackets.is) (c.requires.fits c.requires.open) c.tell_failure_packets.ensures.told

pub returns-in-Slowest-clause-told : goal.returns-in-Slowest-clause-told
returns-in-Slowest-clause-told g c = answers_so (Slowest c.in-Slowest.all) c.args.question _ _ c.tell_slowest.result (c.in-Slowest.is) (c.requires.fits c.requires.open) c.tell_slowest.ensures.told

pub returns-in-Stats-clause-told : goal.returns-in-Stats-clause-told
returns-in-Stats-clause-told g c = answers_so Stats c.args.question _ _ c.tell_stats.result (c.in-Stats.is) (c.requires.fits c.requires.open) c.tell_stats.ensures.told
