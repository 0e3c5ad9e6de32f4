use Rattle.run_ledger.proofs.EntryLemmas.{takes_nothing, takes_more, takes_all}
use Rattle.run_ledger.proofs.entries.map_of.Goals as goal

pub loop-id-init : goal.loop-id-init
loop-id-init c = takes_nothing c.args.bytes.now c.new-times.result c.new-times.ensures

pub loop-id-preserved : goal.loop-id-preserved
loop-id-preserved c = takes_more _ _ _ c.loop-id.invariant c.in-Some.id.now c.in-Some.nanos c.in-Some.behind.now c.put_time.new.times c.in-Some.ensures.some c.in_ok-put_time.ensures

pub returns : goal.returns
returns c = takes_all _ _ _ c.loop-id.invariant c.in_default.ensures.none
