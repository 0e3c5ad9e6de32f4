use Rattle.std.proofs.Common.{◌∙◌, ap}
use Rattle.filter_cli.specs.JunitCases.{Cases}
use Rattle.filter_cli.proofs.JunitCaseLemmas.{cases_push}
use Rattle.filter_cli.proofs.junit_cases.RouteCases.put.Goals as goal

pub returns : goal.returns
returns c = λ rows is.
    let own = c.self.view_is ∙ is in
    cases_push rows c.args.row.now _ _ own (c.in_ok-counts.ensures rows (ap (λ (cases : Cases). cases.counts) own)) c.in_ok-junit_case.ensures.ok
