use Rattle.testr_conf.proofs.LineLemmas.{setting_without_sign, setting_read}
use Rattle.testr_conf.proofs.line.read_setting.Goals as goal

pub returns-in_default : goal.returns-in_default
returns-in_default c = setting_without_sign c.args.line.now c.in_default.ensures

pub returns : goal.returns
returns c = setting_read c.args.line.now c.in-Some.at c.in-Some.ensures.0 c.trim-key.result.now c.trim.result.now c.in-Some.ensures.1 c.trim-key.ensures.value c.trim.ensures.value c.if-is_empty.ensures
