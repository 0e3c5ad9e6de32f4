use Rattle.std.proofs.Common.{Some, Err, ap, ◌∙◌}
use Rattle.v1_bridge.proofs.NameLemmas.{told, not_told}
use Rattle.v1_bridge.proofs.name.text_of.Goals as goal

pub returns-in-Ok : goal.returns-in-Ok
returns-in-Ok c = ap Some c.in-Ok.ensures.ok.0 ∙ told c.args.bytes.now c.in-Ok.ensures.ok.1

pub returns-in-Err-NotText : goal.returns-in-Err-NotText
returns-in-Err-NotText c = not_told c.args.bytes.now (c.new.ensures.not_text (c.in-Err-NotText.is ∙ ap Err c.in-Err-NotText.field-0-is)) c.requires
