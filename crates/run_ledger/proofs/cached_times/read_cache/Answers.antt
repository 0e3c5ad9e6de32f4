use Rattle.std.proofs.Common.{◌∙◌, sym, ap, Some, List, ℕ}
use Rattle.run_ledger.proofs.ClosesLemmas.{tells_done, tells_memory}
use Rattle.run_ledger.proofs.CachedLemmas.{tells_side, found_reading, if_none, holds_no_times}
use Rattle.run_ledger.proofs.cached_times.read_cache.Goals as goal

pub returns-in_err-bytes-clause-reads : goal.returns-in_err-bytes-clause-reads
returns-in_err-bytes-clause-reads g c = tells_side _ _ _ _ c.in_err-bytes.ensures.reads c.from_residual.ensures.1

pub returns-in_default-clause-reads : goal.returns-in_default-clause-reads
returns-in_default-clause-reads g c = tells_done _ _ _ (found_reading _ _ _ c.in_ok-bytes.ensures.reads)

pub returns-in_err-read_entries_cache-clause-reads : goal.returns-in_err-read_entries_cache-clause-reads
returns-in_err-read_entries_cache-clause-reads g c = tells_memory _ _ _ (found_reading _ _ _ c.in_ok-bytes.ensures.reads) c.from_residual-in_err-read_entries_cache.ensures.1

pub returns-clause-none : goal.returns-clause-none
returns-clause-none g c =
    if_none c.in_ok-read_entries_cache.field-0
    (λ none. holds_no_times _ c.in_ok-bytes.field-0 c.bytes-2.result.now (c.in-Some.is ∙ ap (λ (l : List ℕ). Some l) (sym c.bytes-2.ensures)) c.in_ok-bytes.ensures.found none)
    c.in_ok-read_entries_cache.ensures.none

pub returns-clause-reads : goal.returns-clause-reads
returns-clause-reads g c = tells_done _ _ _ (found_reading _ _ _ c.in_ok-bytes.ensures.reads)
