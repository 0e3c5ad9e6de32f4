use Rattle.std.proofs.Common.{arith}
use Rattle.std.proofs.lemmas.List.{take_rest}
use Rattle.junit_xml.proofs.WritingLemmas.{char_done, char_bounds}
use Rattle.junit_xml.proofs.characters.put_front.Goals as goal

pub overflow_add-result : goal.overflow_add-result
overflow_add-result c =
    let bounds = char_bounds c.args.bytes.now c.plain_size-plain.result c.front_char-size.result.1 (omega arith) (rw take_rest at c.front_char-size.ensures.size) in
    omega (arith, bounds.1)

pub returns-clause-within : goal.returns-clause-within
returns-clause-within c =
    let bounds = char_bounds c.args.bytes.now c.plain_size-plain.result c.front_char-size.result.1 (omega arith) (rw take_rest at c.front_char-size.ensures.size) in
    (omega (arith, bounds.0), bounds.1)

pub returns-clause-ok : goal.returns-clause-ok
returns-clause-ok c =
    char_done c.args.place c.args.bytes.now c.plain_size-plain.result c.front_char-size.result.1 c.args.text.now.items _ _ c.front_char-size.result.0.now (omega arith)
    c.plain_size-plain.ensures.plain c.in_ok-extend_from_slice.ensures.items (rw take_rest at c.front_char-size.ensures.text) (rw take_rest at c.front_char-size.ensures.size) c.in_ok-extend_from_slice-2.ensures.items
