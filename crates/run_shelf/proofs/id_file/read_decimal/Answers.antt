use Rattle.std.proofs.Common.{◌≡◌, ◌∙◌, ap, sym, subst}
use Rattle.std.specs.Fmt.{decimal}
use Rattle.std.specs.Str.{IsUtf8, bytes_eq}
use Rattle.std.proofs.lemmas.Bool.{both_ways}
use Rattle.std.proofs.lemmas.Slice.Eq.{bytes_eq-Decides}
use Rattle.std.proofs.lemmas.Fmt.{IsAscii-decimal, parse-decimal}
use Rattle.std.proofs.lemmas.Str.{IsUtf8-from_ascii}
use Rattle.run_shelf.proofs.NameLemmas.{ok_same}
use Rattle.run_shelf.proofs.id_file.read_decimal.Goals as goal

pub returns-in_default-clause-none : goal.returns-in_default-clause-none
returns-in_default-clause-none c number spells =
    c.in_default.ensures.cases.0 (subst IsUtf8 (sym spells.is) (IsUtf8-from_ascii (decimal number) (IsAscii-decimal number spells.small)))

pub returns-in_default-parse-clause-none : goal.returns-in_default-parse-clause-none
returns-in_default-parse-clause-none c number spells =
    c.in_default-parse.not-Ok number
    (parse-decimal 64 number c.in-Ok.text.now c.parse.result spells.small spells.small (c.in-Ok.ensures.cases.0 ∙ spells.is) c.parse.ensures.value.0)

pub returns-else-eq-clause-none : goal.returns-else-eq-clause-none
returns-else-eq-clause-none c number spells =
    let parsed = parse-decimal 64 number c.in-Ok.text.now c.parse.result spells.small spells.small (c.in-Ok.ensures.cases.0 ∙ spells.is) c.parse.ensures.value.0 in
    let same : c.in-Ok-parse.number ≡ number = ok_same c.parse.result c.in-Ok-parse.number number c.in-Ok-parse.is parsed in
    let written : c.as_bytes.result.now ≡ c.args.digits.now = c.as_bytes.ensures.value ∙ c.format.ensures.text ∙ ap decimal same ∙ sym spells.is in
    both_ways (bytes_eq c.as_bytes.result.now c.args.digits.now) (sym c.if-eq.ensures) ((bytes_eq-Decides c.as_bytes.result.now c.args.digits.now).1 written)
