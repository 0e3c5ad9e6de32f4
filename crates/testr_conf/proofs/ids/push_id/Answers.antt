use Rattle.std.proofs.Common.{◌≡◌, Err, true, ap, ◌∙◌, inl, refl}
use Rattle.testr_conf.specs.Lines.{is_plain_line}
use Rattle.testr_conf.proofs.TextLemmas.{test_from_text}
use Rattle.testr_conf.proofs.IdLemmas.{empty_text, other_text, on_ok}
use Rattle.testr_conf.proofs.ids.push_id.Goals as goal

pub returns-then-is_empty-clause-text : goal.returns-then-is_empty-clause-text
returns-then-is_empty-clause-text c = empty_text c.args.id.now c.if-is_empty.ensures

pub returns-in-Err-NotText-clause-err : goal.returns-in-Err-NotText-clause-err
returns-in-Err-NotText-clause-err c =
    inl (other_text c.args.id.now c.requires (c.new.ensures.not_text (c.in-Err-NotText.is ∙ ap Err c.in-Err-NotText.field-0-is)), refl)

pub returns-clause-text : goal.returns-clause-text
returns-clause-text c = on_ok c.match-push.result (is_plain_line c.args.id.now ≡ true) (test_from_text c.args.id.now c.in-Ok.ensures.ok.1.text)
