use Rattle.std.proofs.Common.{◌≡◌, ◌∙◌, map, sym, ap, is_some, true, false, refl, arith, rules}
use Rattle.std.proofs.lemmas.List.{take_all, length-map}
use Rattle.std.proofs.lemmas.List.Elements.{recursion_from_All}
use Rattle.std.specs.List.{list_any}
use Rattle.regex.specs.Patterns.{find_str}
use Rattle.regex.specs.Strings.{regex_pattern}
use Rattle.partition_times.specs.Compiled.{AreSearchers}
use Rattle.partition_times.proofs.PatternLemmas.{all_search, found_at, none_more}
use Rattle.partition_times.proofs.filters.Filters.found.Goals as goal

pub loop-regex-preserved : goal.loop-regex-preserved
loop-regex-preserved c =
    let none : is_some (find_str (regex_pattern c.regex-item.result) c.args.id.now 0) ≡ false = cc (c.in_ok-has_match.ensures, c.if-branch.false, c.string_of-string.ensures) in
    none_more regex_pattern c.deref-regex-items.result.now c.args.id.now c.deref-regex-items.result.now c.loop-regex.regex-index c.regex-item.result refl (omega arith) c.regex-item.is none c.loop-regex.invariant

pub returns-then-branch : goal.returns-then-branch
returns-then-branch c =
    let searchers : AreSearchers c.args.self.now (map regex_pattern c.deref-regex-items.result.now) = rw (c.deref-regex-items.ensures.value, ← c.self.view_is) (all_search c.self.inside.regexes.items (recursion_from_All _ _ c.self.invariant)) in
    let found : is_some (find_str (regex_pattern c.regex-item.result) c.args.id.now 0) ≡ true = cc (c.in_ok-has_match.ensures, c.if-branch.true, c.string_of-string.ensures) in
    found_at regex_pattern c.deref-regex-items.result.now c.args.id.now c.deref-regex-items.result.now c.args.self.now c.loop-regex.regex-index c.regex-item.result (search rules) refl (omega arith) c.regex-item.is found searchers

pub returns : goal.returns
returns c =
    let searchers : AreSearchers c.args.self.now (map regex_pattern c.deref-regex-items.result.now) = rw (c.deref-regex-items.ensures.value, ← c.self.view_is) (all_search c.self.inside.regexes.items (recursion_from_All _ _ c.self.invariant)) in
    let all = take_all c.loop-regex.regex-index (map regex_pattern c.deref-regex-items.result.now) (omega (arith, length-map c.deref-regex-items.result.now regex_pattern)) in
    sym c.loop-regex.invariant ∙ ap (list_any (λ re. is_some (find_str re c.args.id.now 0))) all ∙ searchers.same c.args.id.now (search rules)
