use Rattle.std.proofs.Common.{◌∙◌}
use Rattle.tap_bridge.proofs.IdLemmas.{text_is_id, no_nul, is_short}
use Rattle.tap_bridge.proofs.ids.id_of.Goals as goal

pub returns-in-Ok : goal.returns-in-Ok
returns-in-Ok c = c.in-Ok.ensures.ok.0 ∙ text_is_id c.args.bytes.now c.in-Ok.ensures.ok.1.text

pub text_of-requires : goal.text_of-requires
text_of-requires c = record {
  no_nul = no_nul c.args.bytes.now _ (c.as_str.ensures.value ∙ c.in_ok-text-in-Err-NotText.ensures);
  short = is_short c.args.bytes.now _ c.requires (c.as_str.ensures.value ∙ c.in_ok-text-in-Err-NotText.ensures);
}
