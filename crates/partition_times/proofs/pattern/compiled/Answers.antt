use Rattle.partition_times.proofs.PatternLemmas.{bad_from_error}
use Rattle.partition_times.proofs.pattern.compiled.Goals as goal

pub returns-in-Err-Syntax-clause-bad : goal.returns-in-Err-Syntax-clause-bad
returns-in-Err-Syntax-clause-bad c = λ i same. (
  cc,
  bad_from_error _ _ _ _ c.string_of.ensures c.in-Err-Syntax.field-0-is c.in-Err-Syntax.ensures.by_grammar c.in-Err-Syntax.ensures.kind,
)
