use Rattle.std.proofs.Common.{◌≡◌, false, true}
use Rattle.old_runs.specs.Files.{inputs_in}
use Rattle.old_runs.specs.Lines.{HasHeardLines}
use Rattle.old_runs.proofs.PacketLemmas.{gives_none}
use Rattle.old_runs.proofs.LineLemmas.{last_none, last_some}
use Rattle.old_runs.proofs.lines.OldLines.end_last.Goals as goal

pub returns-then-is_new-clause-heard : goal.returns-then-is_new-clause-heard
returns-then-is_new-clause-heard c bytes given h =
    let new = c.is_new.ensures.0 c.if-is_new.true in
    gives_none (HasHeardLines c.args.self.now.heard (inputs_in bytes)) c.args.packets.now.items given (last_none c.args.self.now bytes given new.0 new.1 h)

pub returns-clause-heard : goal.returns-clause-heard
returns-clause-heard c bytes given h =
    last_some c.args.self.now c.take_rest.new.self.heard bytes _ _ given c.requires.ready.held (λ both. let wrong : false ≡ true = c.if-is_new.ensures.1 both in cc) c.in_ok-take_rest.ensures.heard h
