use Rattle.std.proofs.Common.{ap, sym, ◌∙◌, arith, length-take}
use Rattle.bstr.specs.Utf8.{or_replacement}
use Rattle.junit_xml.specs.Characters.{written_char}
use Rattle.junit_xml.proofs.WritingLemmas.{char_written, replacement_written, within_char}
use Rattle.junit_xml.proofs.characters.front_char.Goals as goal

pub slice_bounds-result-end : goal.slice_bounds-result-end
slice_bounds-result-end c =
    omega (arith, length-take c.decode-found.result.1 c.args.bytes.now, within_char c.args.bytes.now c.decode-found.result.1 c.decode-found.ensures.size)

pub returns-in-None-escape-clause-text : goal.returns-in-None-escape-clause-text
returns-in-None-escape-clause-text c =
    char_written c.args.place c.args.bytes.now c.in-Some.char c.decode-found.result.1 (sym c.in-Some.is ∙ c.decode-found.ensures.char) c.decode-found.ensures.size c.in-None-escape.ensures

pub returns-in-None-clause-text : goal.returns-in-None-clause-text
returns-in-None-clause-text c =
    c.sign_of_none.ensures ∙ replacement_written c.args.place ∙ ap (λ o. written_char c.args.place (or_replacement o)) (sym c.in-None.is ∙ c.decode-found.ensures.char)
