use Rattle.std.proofs.Common.{length}
use Rattle.run_ledger.proofs.EntryLemmas.{TakesSoFar}
use Rattle.run_ledger.proofs.entries.map_of.Given as goal

-- the times of the entries so far
abbrev pub invariant-loop-id : goal.invariant-loop-id
invariant-loop-id l = TakesSoFar l.fn.bytes l.rest l.times

abbrev pub decreases-loop-id : goal.decreases-loop-id
decreases-loop-id l = length l.rest
