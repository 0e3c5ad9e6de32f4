use Rattle.std.proofs.Common.{◌∙◌, ap}
use Rattle.std.specs.FinMap as fin
use Rattle.outcome_fold.proofs.TableLemmas.{lookup_in_map}
use Rattle.outcome_fold.proofs.OrderLemmas.{tests_total}
use Rattle.last_failures.specs.Gathering.{failed_in}
use Rattle.last_failures.specs.Parts.{or_else}
use Rattle.last_failures.proofs.parts.FailedParts.get.Goals as goal

pub returns-in-Some : goal.returns-in-Some
returns-in-Some c = ap (λ o. or_else o (fin.get (failed_in c.args.self.now) c.args.key.now)) (c.in-Some.ensures.value ∙ lookup_in_map tests_total _ _)

pub returns-in-None : goal.returns-in-None
returns-in-None c =
    c.get-in-None.ensures.value ∙ lookup_in_map tests_total _ _
    ∙ ap (λ o. or_else o (fin.get (failed_in c.args.self.now) c.args.key.now)) (c.in-None.ensures.value ∙ lookup_in_map tests_total _ _)
