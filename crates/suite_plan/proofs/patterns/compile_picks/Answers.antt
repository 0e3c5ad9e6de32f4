use Rattle.suite_plan.proofs.PatternLemmas.{refused_behind}
use Rattle.suite_plan.proofs.patterns.compile_picks.Goals as goal

pub returns-in-Err-compiled_filters : goal.returns-in-Err-compiled_filters
returns-in-Err-compiled_filters c = refused_behind _ _ _ c.in-Err-compiled_filters.refusal c.in-Ok.ensures.good c.in-Err-compiled_filters.ensures.good
