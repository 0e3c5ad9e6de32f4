use Rattle.std.proofs.Common.{◌≡◌, map, take, false, is_some}
use Rattle.std.specs.List.{list_any}
use Rattle.regex.specs.Patterns.{find_str}
use Rattle.regex.specs.Strings.{regex_pattern}
use Rattle.partition_times.proofs.filters.Filters.found.Given as goal

abbrev pub invariant-loop-regex : goal.invariant-loop-regex
invariant-loop-regex l = list_any (λ re. is_some (find_str re l.id 0)) (take l.regex-index (map regex_pattern l.regex-items)) ≡ false
