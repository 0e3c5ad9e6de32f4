use Rattle.std.proofs.Common.{length, option_copied}
use Rattle.run_ledger.proofs.EntryLemmas.{AreSoFar}
use Rattle.run_ledger.proofs.entries.are_entries.Given as goal

-- the entries so far, and the bytes behind them
abbrev pub invariant-loop-id : goal.invariant-loop-id
invariant-loop-id l = AreSoFar l.fn.bytes l.rest (option_copied l.last)

abbrev pub decreases-loop-id : goal.decreases-loop-id
decreases-loop-id l = length l.rest
