use Rattle.outcome_fold.proofs.SaidLemmas.{text_said}
use Rattle.outcome_fold.proofs.part.text_heard.Goals as goal

pub returns : goal.returns
returns c = λ e s. text_said _ _ _ e c.text_at.ensures (c.mime.ensures e s) (c.file_bytes.ensures e s)
