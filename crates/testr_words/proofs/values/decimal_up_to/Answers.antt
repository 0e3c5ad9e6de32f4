use Rattle.std.proofs.Common.{◌≡◌, ◌∙◌, ap, sym, arith}
use Rattle.std.specs.Fmt.{decimal}
use Rattle.std.specs.Str.{bytes_eq}
use Rattle.std.proofs.lemmas.Bool.{both_ways}
use Rattle.std.proofs.lemmas.Slice.Eq.{bytes_eq-Decides}
use Rattle.std.proofs.lemmas.Fmt.{parse-decimal}
use Rattle.testr_words.proofs.ValueLemmas.{tells, tells_none, ok_same}
use Rattle.testr_words.proofs.values.decimal_up_to.Goals as goal
use Rattle.testr_words.proofs.values.decimal_up_to.Goals.{else-number-most-via-then-number-most+else-eq, else-number-most-via-else-number-most}

pub returns-in_default : goal.returns-in_default
returns-in_default c = tells_none c.args.most c.ranges.most.fits c.args.value.now (λ number few is.
    c.in_default.not-Ok number (parse-decimal 32 number c.args.value.now c.parse.result (omega (arith, few)) (omega (arith, few)) is c.parse.ensures.value.0))

pub returns-then-eq : goal.returns-then-eq
returns-then-eq c = tells c.args.most c.ranges.most.fits c.args.value.now c.in-Ok.number c.if-number-most.true
    (sym ((bytes_eq-Decides c.format.result.now c.args.value.now).0 (sym c.if-eq.ensures)) ∙ c.format.ensures.text)

pub returns-else-number-most : goal.returns-else-number-most
returns-else-number-most c = tells_none c.args.most c.ranges.most.fits c.args.value.now (λ number few is.
    let parsed = parse-decimal 32 number c.args.value.now c.parse.result (omega (arith, few)) (omega (arith, few)) is c.parse.ensures.value.0 in
    let same : c.in-Ok.number ≡ number = ok_same c.parse.result c.in-Ok.number number c.in-Ok.is parsed in
    elim c.else-number-most.branch [
      | else-number-most-via-then-number-most+else-eq w ↦
          let written : w.format.result.now ≡ c.args.value.now = w.format.ensures.text ∙ ap decimal same ∙ sym is in
          both_ways (bytes_eq w.format.result.now c.args.value.now) (sym w.if-eq.ensures) ((bytes_eq-Decides w.format.result.now c.args.value.now).1 written)
      | else-number-most-via-else-number-most w ↦ omega (arith, same, few, w.if-number-most.false)
    ])
