use Rattle.std.proofs.Common.{◌≡◌, ◌∙◌, ap, sym, subst, arith}
use Rattle.std.specs.Fmt.{decimal}
use Rattle.std.specs.Str.{IsUtf8, bytes_eq}
use Rattle.std.proofs.lemmas.Bool.{both_ways}
use Rattle.std.proofs.lemmas.Slice.Eq.{bytes_eq-Decides}
use Rattle.std.proofs.lemmas.Fmt.{IsAscii-decimal, parse-decimal}
use Rattle.std.proofs.lemmas.Str.{IsUtf8-from_ascii}
use Rattle.run_shelf.proofs.NameLemmas.{ok_same}
use Rattle.old_copies.proofs.names.read_number.Goals as goal
use Rattle.old_copies.proofs.names.read_number.Goals.{else-number-lt-MOST_RUNS-via-then-number-lt-MOST_RUNS+else-eq, else-number-lt-MOST_RUNS-via-else-number-lt-MOST_RUNS}

pub returns-in_default-clause-none : goal.returns-in_default-clause-none
returns-in_default-clause-none c number spells =
    c.in_default.ensures.cases.0 (subst IsUtf8 (sym spells.is) (IsUtf8-from_ascii (decimal number) (IsAscii-decimal number (omega (arith, spells.few)))))

pub returns-in_default-parse-clause-none : goal.returns-in_default-parse-clause-none
returns-in_default-parse-clause-none c number spells =
    c.in_default-parse.not-Ok number
    (parse-decimal 32 number c.in-Ok.text.now c.parse.result (omega (arith, spells.few)) (omega (arith, spells.few)) (c.in-Ok.ensures.cases.0 ∙ spells.is) c.parse.ensures.value.0)

pub returns-else-number-lt-MOST_RUNS-clause-none : goal.returns-else-number-lt-MOST_RUNS-clause-none
returns-else-number-lt-MOST_RUNS-clause-none c number spells =
    let parsed = parse-decimal 32 number c.in-Ok.text.now c.parse.result (omega (arith, spells.few)) (omega (arith, spells.few)) (c.in-Ok.ensures.cases.0 ∙ spells.is) c.parse.ensures.value.0 in
    let same : c.in-Ok-parse.number ≡ number = ok_same c.parse.result c.in-Ok-parse.number number c.in-Ok-parse.is parsed in
    elim c.else-number-lt-MOST_RUNS.branch [
      | else-number-lt-MOST_RUNS-via-then-number-lt-MOST_RUNS+else-eq w ↦
          let written : w.as_bytes.result.now ≡ c.args.digits.now = w.as_bytes.ensures.value ∙ w.format.ensures.text ∙ ap decimal same ∙ sym spells.is in
          both_ways (bytes_eq w.as_bytes.result.now c.args.digits.now) (sym w.if-eq.ensures) ((bytes_eq-Decides w.as_bytes.result.now c.args.digits.now).1 written)
      | else-number-lt-MOST_RUNS-via-else-number-lt-MOST_RUNS w ↦ omega (arith, same, spells.few, w.if-number-lt-MOST_RUNS.false)
    ]
