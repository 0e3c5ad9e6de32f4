use Rattle.std.proofs.Common.{◌∙◌, ap}
use Rattle.std.specs.Option.{option_map}
use Rattle.outcome_fold.specs.Parts.{instant}
use Rattle.outcome_fold.proofs.part.instant_in.Goals as goal

pub returns : goal.returns
returns c = λ e s. c.instant_at.ensures ∙ ap (option_map instant) (c.stamp.ensures e s)
