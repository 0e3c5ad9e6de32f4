use Rattle.std.proofs.Common.{sym}
use Rattle.filter_cli.proofs.ChainLemmas.{checked_as}
use Rattle.filter_cli.proofs.filters_call.pass_input.Goals as goal

pub returns-in-Filter : goal.returns-in-Filter
returns-in-Filter g c = checked_as _ _ _ _ _ (sym c.in-Filter.is) c.filter_tests.ensures

pub returns-in-Tags : goal.returns-in-Tags
returns-in-Tags g c = checked_as _ _ _ _ _ (sym c.in-Tags.is) c.retag.ensures

pub returns-in-Ls : goal.returns-in-Ls
returns-in-Ls g c = checked_as _ _ _ _ _ (sym c.in-Ls.is) c.list.ensures

pub returns-in-Stats : goal.returns-in-Stats
returns-in-Stats g c = checked_as _ _ _ _ _ (sym c.in-Stats.is) c.count.ensures

pub returns-in-FromTap : goal.returns-in-FromTap
returns-in-FromTap g c = checked_as _ _ _ _ _ (sym c.in-FromTap.is) c.read_tap.ensures

pub returns-in-ToTap : goal.returns-in-ToTap
returns-in-ToTap g c = checked_as _ _ _ _ _ (sym c.in-ToTap.is) c.write_tap.ensures

pub returns-in-ToCsv : goal.returns-in-ToCsv
returns-in-ToCsv g c = checked_as _ _ _ _ _ (sym c.in-ToCsv.is) c.export.ensures

pub returns-in-ToJunit : goal.returns-in-ToJunit
returns-in-ToJunit g c = checked_as _ _ _ _ _ (sym c.in-ToJunit.is) c.write_junit.ensures

pub returns-in-Output : goal.returns-in-Output
returns-in-Output g c = checked_as _ _ _ _ _ (sym c.in-Output.is) c.give.ensures

pub returns-in-FromV1 : goal.returns-in-FromV1
returns-in-FromV1 g c = checked_as _ _ _ _ _ (sym c.in-FromV1.is) c.read_v1.ensures

pub returns-in-ToV1 : goal.returns-in-ToV1
returns-in-ToV1 g c = checked_as _ _ _ _ _ (sym c.in-ToV1.is) c.write_v1.ensures

pub returns-in-Tracing : goal.returns-in-Tracing
returns-in-Tracing g c = checked_as _ _ _ _ _ (sym c.in-Tracing.is) c.trace_tests.ensures
