use Rattle.std.proofs.Common.{◌∙◌, sym, ap}
use Rattle.worker_lane.specs.Lost.{is_exists}
use Rattle.worker_lane.proofs.SoughtLemmas.{not_exists}
use Rattle.worker_lane.proofs.unheard_ids.exists_only.Goals as goal

pub returns-in-Exists : goal.returns-in-Exists
returns-in-Exists c e spells = ap is_exists (sym c.in-Exists.is ∙ c.status.ensures e spells)

pub returns-in_default : goal.returns-in_default
returns-in_default c e spells = sym (not_exists e.status (λ is. c.in_default.not-Exists (c.status.ensures e spells ∙ is)))
