use Rattle.std.proofs.Common.{arith, refl, get_or}
use Rattle.junit_xml.proofs.WritingLemmas.{both_false, not_true, plain_more, plain_value}
use Rattle.junit_xml.proofs.characters.are_plain.Goals as goal

pub loop-byte-preserved : goal.loop-byte-preserved
loop-byte-preserved c = λ none.
    let bytes = c.args.bytes.now in
    let done = c.loop-byte.byte-index in
    let both = both_false c.loop-byte.special c.is_special-special.result none in
    let plain = c.is_special-special.ensures both.1 in
    plain_more bytes done (get_or bytes done 0) c.loop-byte-test.true refl plain.0 plain.1 (c.loop-byte.invariant both.0)

pub returns : goal.returns
returns c = λ plain. plain_value c.args.bytes.now c.loop-byte.byte-index (omega (arith, c.loop-byte-test.false)) (c.loop-byte.invariant (not_true c.loop-byte.special plain))
