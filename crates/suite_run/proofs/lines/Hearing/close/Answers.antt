use Rattle.std.proofs.Common.{[]}
use Rattle.suite_run.proofs.EarLemmas.{closed_end, gathered_none}
use Rattle.suite_run.proofs.lines.Hearing.close.Goals as goal

pub returns : goal.returns
returns c filter_tags kind said events gathers none =
    let told = c.in_ok-summary.ensures.heard filter_tags events c.args.self.lines [] gathers.folded (gathered_none c.args.self.lines) in (
      c.in_ok-summary.ensures.rows filter_tags events gathers.folded,
      closed_end filter_tags kind said c.args.self _ _ events gathers none told c.in_ok-end.ensures,
    )
