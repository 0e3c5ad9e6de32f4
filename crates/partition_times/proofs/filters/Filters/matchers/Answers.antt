use Rattle.std.proofs.Common.{◌≡◌, map, ap, ◌∙◌, arith}
use Rattle.std.proofs.lemmas.List.{take_all}
use Rattle.std.proofs.lemmas.List.Elements.{recursion_from_All}
use Rattle.regex.specs.Strings.{matcher_pattern, regex_pattern}
use Rattle.partition_times.proofs.PatternLemmas.{all_search}
use Rattle.partition_times.proofs.filters.Filters.matchers.Goals as goal

pub returns : goal.returns
returns c =
    let all : map matcher_pattern c.loop-regex.matchers.items ≡ map regex_pattern c.self.inside.regexes.items = c.loop-regex.invariant ∙ ap (map regex_pattern) (take_all c.loop-regex.regex-index c.deref-regex-items.result.now (omega arith) ∙ c.deref-regex-items.ensures.value) in
    rw (all, ← c.self.view_is) (all_search c.self.inside.regexes.items (recursion_from_All _ _ c.self.invariant))
