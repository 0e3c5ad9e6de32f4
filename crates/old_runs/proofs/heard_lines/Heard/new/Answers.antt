use Rattle.std.proofs.Common.{refl}
use Rattle.old_runs.proofs.HeardLemmas.{none_foreign}
use Rattle.old_runs.proofs.heard_lines.Heard.new.Goals as goal

pub returns-clause-heard : goal.returns-clause-heard
returns-clause-heard c = record {
  taken = c.new.ensures.read;
  made = refl;
  place = refl;
  outcomes = tt;
  told = refl;
  broken = (λ is. absurd cc, λ h. absurd (none_foreign h));
}
