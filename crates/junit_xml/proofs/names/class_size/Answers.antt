use Rattle.std.proofs.Common.{◌≡◌, ◌∙◌, ap, subst}
use Rattle.std.specs.List.{before_last}
use Rattle.std.specs.Prelude.{length}
use Rattle.junit_xml.specs.Documents.{is_point}
use Rattle.junit_xml.proofs.NameLemmas.{last_found, last_none, class_within}
use Rattle.junit_xml.proofs.names.class_size.Goals as goal

pub returns-in-Some-clause-size : goal.returns-in-Some-clause-size
returns-in-Some-clause-size c = last_found is_point _ c.in-Some.place (rw c.front_of.ensures at c.in-Some.ensures)

pub returns-in-None-clause-size : goal.returns-in-None-clause-size
returns-in-None-clause-size c = last_none is_point _ (rw c.front_of.ensures at c.in-None.ensures)
