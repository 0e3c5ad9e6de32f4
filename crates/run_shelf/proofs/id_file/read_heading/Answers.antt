use Rattle.run_shelf.proofs.IdHeadLemmas.{no_title, no_line, no_number, has_heading}
use Rattle.run_shelf.proofs.id_file.read_heading.Goals as goal

pub returns-in_err-rest-clause-none : goal.returns-in_err-rest-clause-none
returns-in_err-rest-clause-none c = rw c.from_residual.ensures (no_title c.args.title.now c.args.bytes.now c.in_err-rest.ensures.cases)

pub returns-in_err-digits-clause-none : goal.returns-in_err-digits-clause-none
returns-in_err-digits-clause-none c =
    rw c.from_residual-in_err-digits.ensures
    (no_line c.args.title.now c.args.bytes.now c.in_ok-rest.rest.now c.in_ok-rest.ensures.cases.0 c.in_ok-rest.ensures.cases.1 c.in_err-digits.ensures.none)

pub returns-in_err-read_decimal-clause-none : goal.returns-in_err-read_decimal-clause-none
returns-in_err-read_decimal-clause-none c =
    rw c.from_residual-in_err-read_decimal.ensures
    (no_number c.args.title.now c.args.bytes.now c.in_ok-rest.rest.now c.in_ok-rest.ensures.cases.0 c.in_ok-rest.ensures.cases.1 c.in_ok-digits.digits.now c.in_ok-digits.behind.now c.in_ok-digits.ensures.some
    c.in_err-read_decimal.ensures.none)

pub returns-clause-some : goal.returns-clause-some
returns-clause-some c =
    has_heading c.args.title.now c.args.bytes.now c.in_ok-rest.rest.now c.in_ok-rest.ensures.cases.0 c.in_ok-rest.ensures.cases.1 c.in_ok-digits.digits.now c.in_ok-digits.behind.now c.in_ok-digits.ensures.some
    c.in_ok-read_decimal.field-0 c.in_ok-read_decimal.ensures.some
