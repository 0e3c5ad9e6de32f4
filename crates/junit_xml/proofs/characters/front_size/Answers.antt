use Rattle.junit_xml.proofs.WritingLemmas.{byte_plain}
use Rattle.junit_xml.proofs.characters.front_size.Goals as goal

pub returns-then-is_plain-clause-plain : goal.returns-then-is_plain-clause-plain
returns-then-is_plain-clause-plain c =
    let plain = c.is_plain.ensures c.if-is_plain.true in
    byte_plain c.args.place c.args.bytes.now c.requires plain.0 plain.1
