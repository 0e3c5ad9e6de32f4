use Rattle.std.proofs.Common.{◌≡◌, [], All, map, take, get_or, ℕ, ◌<◌}
use Rattle.regex.specs.Strings.{regex_source}
use Rattle.partition_times.specs.Compiled.{IsCompiled}
use Rattle.partition_times.specs.Patterns.{IsPattern}
use Rattle.partition_times.proofs.filters.Filters.new.Given as goal

abbrev pub invariant-loop-index : goal.invariant-loop-index
invariant-loop-index l = record {
  sources : map regex_source l.regexes.items ≡ take l.index l.patterns;
  compiled : All (λ regex. IsCompiled (regex_source regex) regex) l.regexes.items;
  good : (k : ℕ) → k < l.index → IsPattern (get_or l.patterns k []);
}
