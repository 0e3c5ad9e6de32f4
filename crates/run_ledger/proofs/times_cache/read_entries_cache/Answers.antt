use Rattle.std.proofs.Common.{List, ℕ, sym, subst}
use Rattle.run_ledger.specs.Cuts.{AreTimeEntries}
use Rattle.run_ledger.proofs.EntryLemmas.{cache_of}
use Rattle.run_ledger.proofs.times_cache.read_entries_cache.Goals as goal

pub from_vec-times-requires : goal.from_vec-times-requires
from_vec-times-requires c =
    let found = c.in-Some.ensures.some in
    (found.0, subst (λ (l : List ℕ). AreTimeEntries l found.0) (sym c.in_ok-from_slice.ensures.items) found.1)

pub returns-clause-some : goal.returns-clause-some
returns-clause-some c =
    let found = c.in-Some.ensures.some in
    cache_of c.args.bytes.now c.in-Some.rest.now c.in-Some.covers found.0 c.from_vec-times.result found.1 (subst (λ (l : List ℕ). AreTimeEntries l c.from_vec-times.result) c.in_ok-from_slice.ensures.items c.from_vec-times.ensures) found.2
