use Rattle.std.proofs.Common.{◌++◌}
use Rattle.old_runs.specs.Files.{inputs_in}
use Rattle.old_runs.proofs.LineLemmas.{lines_closed}
use Rattle.old_runs.proofs.lines.OldLines.close.Goals as goal

pub returns-clause-events : goal.returns-clause-events
returns-clause-events c bytes given h =
    lines_closed c.end_last.new.self.heard bytes _ _ _ given c.in_ok-verdict.verdict.told (c.in_ok-end_last.ensures.heard bytes given h) c.in_ok-verdict.ensures.events

pub returns-clause-open_parts : goal.returns-clause-open_parts
returns-clause-open_parts c bytes given h =
    let heard = c.in_ok-end_last.ensures.heard bytes given h in
    c.in_ok-verdict.ensures.open_parts (inputs_in bytes) (given ++ heard.more) heard.holds
