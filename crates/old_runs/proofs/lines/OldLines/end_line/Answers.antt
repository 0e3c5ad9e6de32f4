use Rattle.std.proofs.Common.{refl}
use Rattle.old_runs.proofs.LineLemmas.{cut_ended}
use Rattle.old_runs.proofs.lines.OldLines.end_line.Goals as goal

pub returns-clause-cut : goal.returns-clause-cut
returns-clause-cut c all left given h =
    cut_ended c.args.self.now _ all left c.push.new.self.items _ _ given c.requires.ready.held c.in_ok-push.ensures.items c.clear.ensures.items refl c.in_ok-take_rest.ensures.heard h
