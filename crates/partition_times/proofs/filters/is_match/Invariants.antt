use Rattle.std.proofs.Common.{◌≡◌, map, take, false, is_some}
use Rattle.std.specs.List.{list_any}
use Rattle.regex.specs.Patterns.{find_str}
use Rattle.regex.specs.Strings.{matcher_pattern}
use Rattle.partition_times.proofs.filters.is_match.Given as goal

abbrev pub invariant-loop-index : goal.invariant-loop-index
invariant-loop-index l = record {
  same : map matcher_pattern l.matchers ≡ map matcher_pattern l.initial.matchers;
  none : list_any (λ re. is_some (find_str re l.id 0)) (take l.index (map matcher_pattern l.initial.matchers)) ≡ false;
}
