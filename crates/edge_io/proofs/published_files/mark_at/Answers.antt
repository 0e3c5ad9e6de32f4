use Rattle.std.proofs.Common.{◌∙◌}
use Rattle.edge_io.proofs.KeptLemmas.{latest_more, latest_all}
use Rattle.edge_io.proofs.published_files.mark_at.Goals as goal

pub loop-mark-preserved : goal.loop-mark-preserved
loop-mark-preserved c = c.newer-found.ensures ∙ latest_more c.args.past.now c.loop-mark.mark-index _ c.args.moment c.loop-mark.found c.loop-mark-test.true c.loop-mark.invariant

pub returns : goal.returns
returns c = c.newer.ensures ∙ latest_all c.args.past.now c.loop-mark.mark-index c.args.current c.args.moment c.loop-mark.found c.loop-mark-test.false c.loop-mark.invariant
