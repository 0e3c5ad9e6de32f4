use Rattle.std.proofs.Common.{sym}
use Rattle.filter_cli.specs.declared.request.Asked.TheVariants as wanted
use Rattle.filter_cli.proofs.ChainLemmas.{named_as, checked_named, none_given}
use Rattle.filter_cli.proofs.named_input.perform_on_file.Goals as goal

pub returns-in-Filter : goal.returns-in-Filter
returns-in-Filter g c input = named_as _ _ _ _ _ _ (sym c.in-Filter.is) (c.filter_named.ensures input)

pub returns-in-Tags : goal.returns-in-Tags
returns-in-Tags g c input = named_as _ _ _ _ _ _ (sym c.in-Tags.is) (c.retag_named.ensures input)

pub returns-in-Ls : goal.returns-in-Ls
returns-in-Ls g c input = named_as _ _ _ _ _ _ (sym c.in-Ls.is) (c.list_named.ensures input)

pub returns-in-Stats : goal.returns-in-Stats
returns-in-Stats g c input = named_as _ _ _ _ _ _ (sym c.in-Stats.is) (c.count_named.ensures input)

pub returns-in-FromTap : goal.returns-in-FromTap
returns-in-FromTap g c input = named_as _ _ _ _ _ _ (sym c.in-FromTap.is) (c.tap_named.ensures input)

pub returns-in-ToTap : goal.returns-in-ToTap
returns-in-ToTap g c input = named_as _ _ _ _ _ _ (sym c.in-ToTap.is) (checked_named wanted.ToTap _ _ _ _ none_given (c.notes_named.ensures input))

pub returns-in-ToCsv : goal.returns-in-ToCsv
returns-in-ToCsv g c input = named_as _ _ _ _ _ _ (sym c.in-ToCsv.is) (c.export_named.ensures input)

pub returns-in-ToJunit : goal.returns-in-ToJunit
returns-in-ToJunit g c input = named_as _ _ _ _ _ _ (sym c.in-ToJunit.is) (checked_named wanted.ToJunit _ _ _ _ none_given (c.notes_named-in-ToJunit.ensures input))

pub returns-in-Output : goal.returns-in-Output
returns-in-Output g c input = named_as _ _ _ _ _ _ (sym c.in-Output.is) (c.attach_named.ensures input)

pub returns-in-FromV1 : goal.returns-in-FromV1
returns-in-FromV1 g c input = named_as _ _ _ _ _ _ (sym c.in-FromV1.is) (c.v1_named.ensures input)

pub returns-in-ToV1 : goal.returns-in-ToV1
returns-in-ToV1 g c input = named_as _ _ _ _ _ _ (sym c.in-ToV1.is) (checked_named wanted.ToV1 _ _ _ _ none_given (c.notes_named-in-ToV1.ensures input))

pub returns-in-Tracing : goal.returns-in-Tracing
returns-in-Tracing g c input = named_as _ _ _ _ _ _ (sym c.in-Tracing.is) (c.trace_named.ensures input)
