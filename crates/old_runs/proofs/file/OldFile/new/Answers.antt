use Rattle.std.proofs.Common.{◌<◌, refl}
use Rattle.std.proofs.lemmas.List.Elements.{All-nil}
use Rattle.old_runs.proofs.file.OldFile.new.Goals as goal

pub returns : goal.returns
returns c = record { are_bytes = All-nil (λ byte. byte < 256); ready = c.new.ensures.ready; begun = refl; fed = c.new.ensures.fed }
