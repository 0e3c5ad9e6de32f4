use Rattle.std.proofs.Common.{[]}
use Rattle.filter_cli.proofs.junit_cases.RouteCases.one.Goals as goal

pub returns : goal.returns
returns c = c.in_ok-put.ensures [] c.none-cases.ensures
