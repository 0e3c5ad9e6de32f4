use Rattle.std.specs.Str.Parse.{digits_value}
use Rattle.suite_plan.proofs.CountLemmas.{digits_utf8, digits_parsed}
use Rattle.suite_plan.proofs.output_number.value_of.Goals as goal

pub unreachable-requires : goal.unreachable-requires
unreachable-requires c = c.in_default.ensures.cases.0 (digits_utf8 c.args.digits.now c.requires.digits)

pub unreachable-requires-in_default-parse : goal.unreachable-requires-in_default-parse
unreachable-requires-in_default-parse c =
    let parsed = rw c.in-Ok.ensures.cases.0 at c.parse.ensures.value.0 in
    c.in_default-parse.not-Ok (digits_value 10 c.args.digits.now) (digits_parsed c.args.digits.now c.parse.result parsed c.requires.digits c.requires.some c.requires.few)
