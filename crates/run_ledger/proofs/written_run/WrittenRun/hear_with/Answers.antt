use Rattle.run_ledger.proofs.WrittenLemmas.{written_more}
use Rattle.run_ledger.proofs.written_run.WrittenRun.hear_with.Goals as goal

pub returns-clause-written : goal.returns-clause-written
returns-clause-written g c = λ filter_tags run has. written_more filter_tags _ _ _ run _ c.requires.packets has (c.hear_packets.ensures.summed filter_tags)
