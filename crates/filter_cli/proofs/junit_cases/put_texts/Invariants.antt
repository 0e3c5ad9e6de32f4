use Rattle.std.proofs.Common.{◌≡◌, ◌++◌}
use Rattle.std.specs.List.{flat_map}
use Rattle.filter_cli.proofs.junit_cases.put_texts.Given as goal

abbrev pub invariant-loop-cases : goal.invariant-loop-cases
invariant-loop-cases l = l.out.items ≡ l.fn.out.items ++ flat_map (λ cases. cases.text) l.yielded
