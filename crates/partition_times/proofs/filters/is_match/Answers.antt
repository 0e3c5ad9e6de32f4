use Rattle.std.proofs.Common.{◌∙◌, arith, rules}
use Rattle.std.proofs.Math.Seq.{map-set_same}
use Rattle.regex.specs.Strings.{matcher_pattern}
use Rattle.partition_times.proofs.PatternLemmas.{found_at, none_more}
use Rattle.partition_times.proofs.filters.is_match.Goals as goal

pub returns-then-is_match-clause-found : goal.returns-then-is_match-clause-found
returns-then-is_match-clause-found c = λ patterns searchers.
    found_at matcher_pattern c.args.matchers.now c.args.id.now c.loop-index.matchers patterns c.loop-index.index c.index-matchers-index.result (search rules) c.loop-index.invariant.same (omega arith) c.index-matchers-index.is (cc (c.if-is_match.ensures.found)) searchers

pub returns-then-is_match-clause-same : goal.returns-then-is_match-clause-same
returns-then-is_match-clause-same c = map-set_same matcher_pattern c.loop-index.matchers c.loop-index.index c.is_match.new.self c.index-matchers-index.result (search rules) ∙ c.loop-index.invariant.same

pub loop-index-preserved : goal.loop-index-preserved
loop-index-preserved c = record {
  same = map-set_same matcher_pattern c.loop-index.matchers c.loop-index.index c.is_match.new.self c.index-matchers-index.result (search rules) ∙ c.loop-index.invariant.same;
  none = none_more matcher_pattern c.args.matchers.now c.args.id.now c.loop-index.matchers c.loop-index.index c.index-matchers-index.result c.loop-index.invariant.same (omega arith) c.index-matchers-index.is (cc (c.if-is_match.ensures.found)) c.loop-index.invariant.none;
}
