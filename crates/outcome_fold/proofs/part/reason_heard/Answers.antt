use Rattle.outcome_fold.proofs.SaidLemmas.{reason_said}
use Rattle.outcome_fold.proofs.part.reason_heard.Goals as goal

pub returns : goal.returns
returns c = λ e s. reason_said _ _ _ e c.reason_at.ensures (c.file_name.ensures e s) (c.file_bytes.ensures e s)
