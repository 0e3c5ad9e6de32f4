use Rattle.run_ledger.proofs.MergeLemmas.{no_first, no_second, first_is, two_cuts}
use Rattle.run_ledger.proofs.merged_times.first_entry.Goals as goal

pub returns-in_err-id-clause-none : goal.returns-in_err-id-clause-none
returns-in_err-id-clause-none c = rw c.from_residual.ensures (no_first c.args.entries.now c.in_err-id.ensures.none)

pub returns-in_err-behind-clause-none : goal.returns-in_err-behind-clause-none
returns-in_err-behind-clause-none c = rw c.from_residual-in_err-behind.ensures (no_second c.args.entries.now c.in_ok-id.id.now c.in_ok-id.rest.now c.in_ok-id.ensures.some c.in_err-behind.ensures.none)

pub returns-clause-some : goal.returns-clause-some
returns-clause-some c = first_is c.args.entries.now c.in_ok-id.id.now c.in_ok-id.rest.now c.in_ok-id.ensures.some _ c.in_ok-behind.behind.now c.in_ok-behind.ensures.some

pub returns-clause-short : goal.returns-clause-short
returns-clause-short c = two_cuts c.args.entries.now c.in_ok-id.id.now c.in_ok-id.rest.now _ c.in_ok-behind.behind.now c.in_ok-id.ensures.some c.in_ok-behind.ensures.some
