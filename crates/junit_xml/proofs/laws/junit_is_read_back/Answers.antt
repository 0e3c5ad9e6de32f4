use Rattle.junit_xml.proofs.LawLemmas.{document_told}
use Rattle.junit_xml.proofs.XmlLemmas.{document_xml}
use Rattle.junit_xml.proofs.laws.junit_is_read_back.Goals as goal

pub returns-clause-told : goal.returns-clause-told
returns-clause-told c = document_told

pub returns-clause-characters : goal.returns-clause-characters
returns-clause-characters c = document_xml
