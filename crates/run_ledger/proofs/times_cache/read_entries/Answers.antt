use Rattle.std.proofs.Common.{ℕ}
use Rattle.std.specs.FinMap.{FinMap}
use Rattle.outcome_fold.specs.Order.{text_cmp}
use Rattle.run_ledger.specs.Cuts.{AreTimeEntries}
use Rattle.run_ledger.proofs.TimedLemmas.{no_times_heading, no_times_entries, is_times_cache}
use Rattle.run_ledger.proofs.times_cache.read_entries.Goals as goal

pub returns-in_err-covers-clause-none : goal.returns-in_err-covers-clause-none
returns-in_err-covers-clause-none c = rw c.from_residual.ensures (no_times_heading c.args.bytes.now c.in_err-covers.ensures.none)

pub returns-then-are_entries-clause-some : goal.returns-then-are_entries-clause-some
returns-then-are_entries-clause-some c =
    let found : (times : FinMap text_cmp ℕ) × AreTimeEntries c.in_ok-covers.rest.now times = rw c.if-are_entries.true at c.are_entries.ensures in
    (found.0, found.1, is_times_cache c.args.bytes.now c.in_ok-covers.covers c.in_ok-covers.rest.now c.in_ok-covers.ensures.some found.0 found.1)

pub returns-else-are_entries-clause-none : goal.returns-else-are_entries-clause-none
returns-else-are_entries-clause-none c =
    let none : (times : FinMap text_cmp ℕ) → AreTimeEntries c.in_ok-covers.rest.now times → ⊥ = rw c.if-are_entries.false at c.are_entries.ensures in
    no_times_entries c.args.bytes.now c.in_ok-covers.covers c.in_ok-covers.rest.now c.in_ok-covers.ensures.some none
