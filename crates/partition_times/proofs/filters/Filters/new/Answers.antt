use Rattle.std.proofs.Common.{get_or, [], length, ◌<◌, arith, rules}
use Rattle.std.proofs.lemmas.List.{get_or_default}
use Rattle.std.proofs.lemmas.List.Elements.{All-push}
use borrow.Author.Count.{below_more}
use Rattle.regex.specs.Strings.{regex_source}
use Rattle.partition_times.specs.Compiled.{IsCompiled}
use Rattle.partition_times.specs.Patterns.{IsPattern}
use Rattle.partition_times.proofs.PatternLemmas.{pattern_of_compiled, one_more_source, with_own_text}
use Rattle.partition_times.proofs.filters.Filters.new.Goals as goal

pub loop-index-preserved : goal.loop-index-preserved
loop-index-preserved c =
    let below : c.loop-index.index < length c.args.patterns.now = omega arith in
    let text = c.index-patterns-index.result in
    record {
      sources = one_more_source c.args.patterns.now c.loop-index.index _ _ c.in_ok-compiled.field-0 text c.in_ok-push.ensures.items c.loop-index.invariant.sources c.in_ok-compiled.ensures.ok (search rules) below;
      compiled = rw c.in_ok-push.ensures.items (All-push (λ regex. IsCompiled (regex_source regex) regex) _ _ c.loop-index.invariant.compiled (with_own_text _ _ c.in_ok-compiled.ensures.ok));
      good = below_more (λ k. IsPattern (get_or c.args.patterns.now k [])) c.loop-index.index c.loop-index.invariant.good (rw (← get_or_default c.args.patterns.now c.loop-index.index text [] below, ← c.index-patterns-index.is) (pattern_of_compiled _ _ c.in_ok-compiled.ensures.ok));
    }

pub returns-clause-good : goal.returns-clause-good
returns-clause-good c = λ k d below. rw (get_or_default c.args.patterns.now k d [] below) (c.loop-index.invariant.good k (omega arith))
