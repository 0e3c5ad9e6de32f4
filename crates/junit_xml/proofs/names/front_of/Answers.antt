use Rattle.junit_xml.specs.Documents.{is_opening}
use Rattle.junit_xml.proofs.NameLemmas.{before_found, before_none}
use Rattle.junit_xml.proofs.names.front_of.Goals as goal

pub returns-in-Some : goal.returns-in-Some
returns-in-Some c = before_found is_opening c.args.id.now c.in-Some.place c.in-Some.ensures

pub returns-in-None : goal.returns-in-None
returns-in-None c = before_none is_opening c.args.id.now c.in-None.ensures
