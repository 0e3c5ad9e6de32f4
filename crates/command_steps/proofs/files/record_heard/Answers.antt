use Rattle.std.proofs.Common.{ap, length, arith}
use Rattle.command_steps.proofs.FilesLemmas.{heard_input, heard_files}
use Rattle.command_steps.proofs.files.record_heard.Goals as goal

pub returns-in-empty-clause-recorded : goal.returns-in-empty-clause-recorded
returns-in-empty-clause-recorded g c = heard_input c.args.names.now _ _ _ _ _ _ _ (omega (arith, c.in-empty.len_below, ap length c.list.ensures)) c.record_input.ensures.recorded c.record_input.ensures.refused

pub returns-in_default-clause-recorded : goal.returns-in_default-clause-recorded
returns-in_default-clause-recorded g c = heard_files c.args.names.now c.list.result.now _ _ _ _ _ _ _ c.list.ensures (omega (arith, c.in_default.len_at_least, ap length c.list.ensures)) c.record_each.ensures.recorded c.record_each.ensures.refused c.record_each.ensures.files
