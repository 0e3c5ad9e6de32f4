use Rattle.run_ledger.proofs.CacheLemmas.{no_heading, no_entries}
use Rattle.run_ledger.proofs.failing_cache.read_failing_cache.Goals as goal

pub returns-in_default-clause-none : goal.returns-in_default-clause-none
returns-in_default-clause-none c = no_heading c.args.bytes.now c.in_default.ensures.none

pub returns-in_default-2-clause-none : goal.returns-in_default-2-clause-none
returns-in_default-2-clause-none c = no_entries c.args.bytes.now c.in-Some.covers c.in-Some.rest.now c.in-Some.ensures.some (rw c.in_default-2.is at c.in_ok-ids.ensures.none)
