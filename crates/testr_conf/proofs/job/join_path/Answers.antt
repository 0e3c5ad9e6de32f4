use Rattle.std.proofs.Common.{◌∷◌, [], ◌++◌, ◌∙◌, ap, append_assoc, arith, subst, sym}
use Rattle.sub_number.specs.Texts.{IsText}
use Rattle.testr_conf.proofs.PathLemmas.{plain_text}
use Rattle.testr_conf.proofs.TextLemmas.{text_then, text_one}
use Rattle.testr_conf.proofs.job.join_path.Goals as goal

pub returns-clause-value : goal.returns-clause-value
returns-clause-value c =
    c.in_ok-extend_from_slice.ensures.items
    ∙ ap (λ l. l ++ c.bytes.result.now) (c.in_ok-push.ensures.items ∙ ap (λ l. l ++ 47 ∷ []) c.in_ok-path.ensures.items)
    ∙ append_assoc c.args.folder.now (47 ∷ []) c.bytes.result.now
    ∙ ap (λ l. c.args.folder.now ++ 47 ∷ l) c.bytes.ensures.bytes

pub returns-clause-text : goal.returns-clause-text
returns-clause-text c =
    text_then c.push.new.self.items c.extend_from_slice.new.self.items c.bytes.result.now c.in_ok-extend_from_slice.ensures.items
    (text_then c.in_ok-path.path.items c.push.new.self.items (47 ∷ []) c.in_ok-push.ensures.items
    (subst IsText (sym c.in_ok-path.ensures.items) (plain_text c.args.folder.now c.requires)) (text_one 47 (omega arith) (omega arith)))
    (subst IsText (sym c.bytes.ensures.bytes) c.bytes.ensures.text.text)
