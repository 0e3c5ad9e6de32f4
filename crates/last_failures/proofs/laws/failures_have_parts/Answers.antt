use Rattle.last_failures.proofs.LawLemmas as lemmas
use Rattle.last_failures.proofs.laws.failures_have_parts.Goals as goal

pub returns : goal.returns
returns c = record { some = lemmas.failures_have_parts }
