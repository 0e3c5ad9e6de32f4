use Rattle.std.proofs.Common.{◌≡◌, ◌++◌, map}
use Rattle.filter_cli.proofs.junit_cases.JunitCases.into_routes.Given as goal

-- the routes so far, and those that are left
abbrev pub invariant-loop-cases : goal.invariant-loop-cases
invariant-loop-cases l = l.routes.items ++ map (λ e. e.1) l.cases-iterator ≡ map (λ e. e.1) l.initial.cases-iterator
