use Rattle.run_ledger.proofs.EntryLemmas.{own_times}
use Rattle.run_ledger.proofs.entries.Entries.from_vec.Goals as goal

pub invariant_of-result : goal.invariant_of-result
invariant_of-result c = own_times c.args.bytes.items c.requires

pub returns : goal.returns
returns c = own_times c.args.bytes.items c.requires
