use Rattle.std.proofs.Common.{ℕ, List, ◌++◌, ap, sym, ◌∙◌}
use Rattle.filter_cli.proofs.AttachLemmas.{one_event}
use Rattle.filter_cli.proofs.attached_file.put_piece.Goals as goal

pub returns : goal.returns
returns c = c.in_ok-encode.ensures.ok ∙ ap (λ (l : List ℕ). c.args.text.now.items ++ l) (sym (one_event c.args.job.now c.args.piece.now c.in_ok-event.event c.in_ok-event.ensures.event))
