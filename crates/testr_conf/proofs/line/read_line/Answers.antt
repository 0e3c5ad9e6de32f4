use Rattle.std.proofs.Common.{sym, ◌∙◌}
use Rattle.std.proofs.lemmas.Bool.{false≢true}
use Rattle.testr_conf.specs.Seen.{conf_line_meant}
use Rattle.testr_conf.proofs.LineLemmas.{read_text, read_bad}
use Rattle.testr_conf.proofs.line.read_line.Goals as goal

pub returns-then-is_text : goal.returns-then-is_text
returns-then-is_text c =
    read_text c.args.line.now c.strip_last_byte.result.now c.strip_last_byte-line.result.now c.strip_last_byte.ensures c.strip_last_byte-line.ensures
    (conf_line_meant c.read_text_line.result) (c.is_text.ensures.0 c.if-is_text.true) c.read_text_line.ensures

pub returns-else-is_text : goal.returns-else-is_text
returns-else-is_text c =
    read_bad c.args.line.now c.strip_last_byte.result.now c.strip_last_byte-line.result.now c.strip_last_byte.ensures c.strip_last_byte-line.ensures
    (λ text. false≢true (sym c.if-is_text.false ∙ c.is_text.ensures.1 text))
