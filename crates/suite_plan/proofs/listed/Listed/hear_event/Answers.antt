use Rattle.std.proofs.Common.{◌∙◌, refl, sym}
use Rattle.suite_plan.specs.Saying.{said_by}
use Rattle.suite_plan.proofs.SaidLemmas.{heard_none, heard_one}
use Rattle.suite_plan.proofs.listed.Listed.hear_event.Goals as goal

pub returns-in-Some : goal.returns-in-Some
returns-in-Some c = λ events has. heard_one c.add-in-Some.result c.args.self.now _ events c.args.event c.in-Some.id (sym c.existing.ensures ∙ c.in-Some.is) c.add-in-Some.ensures (c.in_ok-add.ensures (said_by events) has.said) has

pub returns : goal.returns
returns c = λ events has. heard_none c.args.self.now _ events c.args.event (sym c.existing.ensures ∙ c.in-None.is) refl (c.in_ok-add.ensures (said_by events) has.said) has
