use Rattle.std.proofs.Common.{◌≡◌, List, [], map, take}
use Rattle.std.specs.List.{flat_map}
use Rattle.outcome_fold.specs.declared.row.Row.{Row}
use Rattle.outcome_fold.specs.Answers.{counts_of}
use Rattle.filter_cli.specs.JunitCases.{cases_of}
use Rattle.filter_cli.proofs.junit_cases.counts_in.Given as goal

-- those of the routes so far
abbrev pub invariant-loop-cases : goal.invariant-loop-cases
invariant-loop-cases l = (groups : List (List Row)) → l.routes ≡ map cases_of groups → l.counts ≡ counts_of [] (flat_map (λ group. group) (take l.cases-index groups))
