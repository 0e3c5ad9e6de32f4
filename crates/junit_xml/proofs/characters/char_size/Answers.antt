use Rattle.std.proofs.Common.{sym, ◌∙◌}
use Rattle.junit_xml.proofs.WritingLemmas.{char_plain, no_escape, within_char}
use Rattle.junit_xml.proofs.characters.char_size.Goals as goal

pub returns-in-Some-default-clause-within : goal.returns-in-Some-default-clause-within
returns-in-Some-default-clause-within c = within_char c.args.bytes.now c.decode.result.1 c.decode.ensures.size

pub returns-in-Some-default-clause-plain : goal.returns-in-Some-default-clause-plain
returns-in-Some-default-clause-plain c =
    char_plain c.args.place c.args.bytes.now c.in-Some-default.char c.decode.result.1 (sym c.in-Some-default.is-0 ∙ c.decode.ensures.char) c.decode.ensures.size
    (no_escape _ c.escape.result _ c.if-is_none.ensures c.escape.ensures)
