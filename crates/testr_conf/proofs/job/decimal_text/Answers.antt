use Rattle.std.proofs.Common.{◌≡◌, rules, arith, subst, sym}
use Rattle.std.specs.Fmt.{decimal}
use Rattle.sub_number.specs.Texts.{IsText}
use Rattle.testr_conf.proofs.TrimLemmas.{digits_text}
use Rattle.testr_conf.proofs.job.decimal_text.Goals as goal

pub returns-clause-text : goal.returns-clause-text
returns-clause-text c =
    let same : c.in_ok-from_slice.field-0.items ≡ decimal c.args.number = search rules in
    subst IsText (sym same) (digits_text c.args.number (omega (arith, c.ranges.number.fits)))
