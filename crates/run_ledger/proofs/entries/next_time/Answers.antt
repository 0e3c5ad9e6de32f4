use Rattle.run_ledger.proofs.TimedLemmas.{no_id, no_digits, no_time, has_time}
use Rattle.run_ledger.proofs.entries.next_time.Goals as goal

pub returns-in_err-id-clause-none : goal.returns-in_err-id-clause-none
returns-in_err-id-clause-none c = rw c.from_residual.ensures (no_id c.args.bytes.now c.in_err-id.ensures.none)

pub returns-in_err-digits-clause-none : goal.returns-in_err-digits-clause-none
returns-in_err-digits-clause-none c = rw c.from_residual-in_err-digits.ensures (no_digits c.args.bytes.now c.in_ok-id.id.now c.in_ok-id.rest.now c.in_ok-id.ensures.some c.in_err-digits.ensures.none)

pub returns-in_err-read_decimal-clause-none : goal.returns-in_err-read_decimal-clause-none
returns-in_err-read_decimal-clause-none c =
    rw c.from_residual-in_err-read_decimal.ensures
    (no_time c.args.bytes.now c.in_ok-id.id.now c.in_ok-id.rest.now c.in_ok-id.ensures.some c.in_ok-digits.digits.now c.in_ok-digits.behind.now c.in_ok-digits.ensures.some c.in_err-read_decimal.ensures.none)

pub returns-clause-some : goal.returns-clause-some
returns-clause-some c =
    has_time c.args.bytes.now c.in_ok-id.id.now c.in_ok-id.rest.now c.in_ok-id.ensures.some c.in_ok-digits.digits.now c.in_ok-digits.behind.now c.in_ok-digits.ensures.some c.in_ok-read_decimal.field-0 c.in_ok-read_decimal.ensures.some
