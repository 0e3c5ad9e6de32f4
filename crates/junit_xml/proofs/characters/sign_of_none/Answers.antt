use Rattle.junit_xml.proofs.WritingLemmas.{replacement_spelled}
use Rattle.junit_xml.proofs.characters.sign_of_none.Goals as goal

pub returns : goal.returns
returns c = replacement_spelled
