use Rattle.std.proofs.Common.{◌≡◌, map, take}
use Rattle.regex.specs.Strings.{matcher_pattern, regex_pattern}
use Rattle.partition_times.proofs.filters.Filters.matchers.Given as goal

abbrev pub invariant-loop-regex : goal.invariant-loop-regex
invariant-loop-regex l = map matcher_pattern l.matchers.items ≡ map regex_pattern (take l.regex-index l.regex-items)
