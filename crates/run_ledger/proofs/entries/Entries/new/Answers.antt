use Rattle.std.specs.FinMap as fin
use Rattle.run_ledger.proofs.EntryLemmas.{none_are, none_own, own_times}
use Rattle.run_ledger.proofs.entries.Entries.new.Goals as goal

pub invariant_of-result : goal.invariant_of-result
invariant_of-result c = own_times c.new.result.items (fin.empty, none_are c.new.result.items c.new.ensures.items)

pub returns : goal.returns
returns c = none_own c.new.result.items c.new.ensures.items
